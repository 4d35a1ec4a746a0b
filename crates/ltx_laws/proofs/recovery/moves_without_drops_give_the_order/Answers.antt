use Rattle.ltx_laws.proofs.DropsHistories.{logged_now, logged_through}
use Rattle.ltx_laws.proofs.recovery.moves_without_drops_give_the_order.Goals as goal

pub returns : goal.returns
returns c = record { now = logged_now; through = logged_through }
