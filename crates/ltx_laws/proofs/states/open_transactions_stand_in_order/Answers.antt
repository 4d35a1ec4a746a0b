use Rattle.ltx_laws.proofs.LiveStates.{open_in_order}
use Rattle.ltx_laws.proofs.states.open_transactions_stand_in_order.Goals as goal

pub returns : goal.returns
returns c = record { order = open_in_order }
