use Rattle.ltx_laws.proofs.LiveOrder.{live_in_order}
use Rattle.ltx_laws.proofs.states.live_batches_stand_in_order.Goals as goal

pub returns : goal.returns
returns c = record { order = live_in_order }
