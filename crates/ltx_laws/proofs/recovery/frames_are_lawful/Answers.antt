use Rattle.ltx_laws.proofs.LawfulFrames.{events_lawful, epochs_rise, all_closed, commits_new}
use Rattle.ltx_laws.proofs.FrameEpochs.{frames_never_fall}
use Rattle.ltx_laws.proofs.recovery.frames_are_lawful.Goals as goal

pub returns : goal.returns
returns c = record { events = events_lawful; epochs = epochs_rise; closed = all_closed; new = commits_new; rising = frames_never_fall }
