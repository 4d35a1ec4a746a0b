use Rattle.ltx_laws.proofs.LiveStates.{snapshot_given}
use Rattle.ltx_laws.proofs.states.snapshot_is_order_before_slot.Goals as goal

pub returns : goal.returns
returns c = record { snapshot = snapshot_given }
