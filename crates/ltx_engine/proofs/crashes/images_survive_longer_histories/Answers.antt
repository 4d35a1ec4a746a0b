use Rattle.ltx_engine.proofs.Survivals.{through_base, either_longer, through_longer}
use Rattle.ltx_engine.proofs.crashes.images_survive_longer_histories.Goals as goal

pub returns : goal.returns
returns c = record { first = through_base; either = either_longer; through = through_longer }
