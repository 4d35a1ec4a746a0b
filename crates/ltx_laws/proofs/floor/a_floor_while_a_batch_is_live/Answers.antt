use Rattle.ltx_laws.proofs.FloorLive.{floor_given, floor_nowhere}
use Rattle.ltx_laws.proofs.floor.a_floor_while_a_batch_is_live.Goals as goal

pub returns : goal.returns
returns c = record { live = floor_given; none = floor_nowhere }
