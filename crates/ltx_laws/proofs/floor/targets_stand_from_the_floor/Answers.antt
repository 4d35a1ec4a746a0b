use Rattle.ltx_laws.proofs.Floors.{targets_over}
use Rattle.ltx_laws.proofs.floor.targets_stand_from_the_floor.Goals as goal

pub returns : goal.returns
returns c = targets_over
