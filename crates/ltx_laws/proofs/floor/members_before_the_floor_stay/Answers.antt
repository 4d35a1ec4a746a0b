use Rattle.ltx_laws.proofs.Floors.{floor_over, predecessors_over}
use Rattle.ltx_laws.proofs.floor.members_before_the_floor_stay.Goals as goal

pub returns : goal.returns
returns c = record { first = floor_over; predecessors = predecessors_over }
