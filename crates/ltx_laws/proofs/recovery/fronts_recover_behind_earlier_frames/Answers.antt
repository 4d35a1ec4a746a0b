use Rattle.ltx_laws.proofs.EarlierFrames.{all_lawful, all_recovered}
use Rattle.ltx_laws.proofs.recovery.fronts_recover_behind_earlier_frames.Goals as goal

pub returns : goal.returns
returns c = record { lawful = all_lawful; given = all_recovered }
