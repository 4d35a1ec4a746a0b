use Rattle.ltx_laws.proofs.ExplainedHistories.{explained}
use Rattle.ltx_laws.proofs.serial_order.order_explains_history.Goals as goal

pub returns : goal.returns
returns c = explained
