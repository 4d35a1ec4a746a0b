use Rattle.ltx_laws.proofs.InsideAreas.{live_inside}
use Rattle.ltx_laws.proofs.states.batches_stay_inside_what_they_declared.Goals as goal

pub returns : goal.returns
returns c = record { inside = live_inside }
