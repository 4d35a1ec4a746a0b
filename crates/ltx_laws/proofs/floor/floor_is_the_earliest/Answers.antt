use Rattle.ltx_laws.proofs.FloorWitnesses.{floor_earliest, floor_found, floor_none, before_floor_is, before_no_floor}
use Rattle.ltx_laws.proofs.floor.floor_is_the_earliest.Goals as goal

pub returns : goal.returns
returns c = record { given = floor_earliest; found = floor_found; none = floor_none; before = before_floor_is; all = before_no_floor }
