use Rattle.std.proofs.Common.{◌≡◌, ◌++◌, drop}
use Rattle.ltx_recover.specs.Stamps.{stamped_in, stamped_all}
use Rattle.ltx_recover.proofs.order.Order.stamps.Given as goal

-- with what is still to come they are all
abbrev pub invariant-loop-tx : goal.invariant-loop-tx
invariant-loop-tx l = stamped_in l.stamps.items ++ stamped_all (drop l.tx-index l.self) ≡ stamped_all l.self
