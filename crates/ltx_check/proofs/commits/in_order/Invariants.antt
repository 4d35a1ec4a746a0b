use Rattle.std.proofs.Common.{◌≡◌, take}
use Rattle.ltx_check.specs.Marks.{in_order}
use Rattle.ltx_check.proofs.commits.in_order.Given as goal

abbrev pub invariant-loop-tx : goal.invariant-loop-tx
invariant-loop-tx l = l.run.items ≡ in_order l.commits (take l.tx-index l.order)
