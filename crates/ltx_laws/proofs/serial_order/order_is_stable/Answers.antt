use Rattle.ltx_laws.proofs.ExplainedStable.{stands_on, within_later}
use Rattle.ltx_laws.proofs.serial_order.order_is_stable.Goals as goal

pub returns : goal.returns
returns c = record { before = stands_on; kept = within_later }
