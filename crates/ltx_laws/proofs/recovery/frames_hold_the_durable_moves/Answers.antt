use Rattle.ltx_laws.proofs.DropsFrames.{frames_through}
use Rattle.ltx_laws.proofs.recovery.frames_hold_the_durable_moves.Goals as goal

pub returns : goal.returns
returns c = frames_through
