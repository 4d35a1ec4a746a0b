use Rattle.std.proofs.Common.{◌≡◌, take}
use Rattle.ltx_check.proofs.orders.plain_numbers.Given as goal

abbrev pub invariant-loop-tx : goal.invariant-loop-tx
invariant-loop-tx l = l.numbers.items ≡ take l.tx-index l.txs
