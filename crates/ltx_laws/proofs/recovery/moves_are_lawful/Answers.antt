use Rattle.ltx_laws.proofs.PlayedFrames.{moves_lawful}
use Rattle.ltx_laws.proofs.recovery.moves_are_lawful.Goals as goal

pub returns : goal.returns
returns c = record { lawful = moves_lawful }
