use Rattle.std.proofs.Common.{◌≡◌, ◌++◌, take, flat_map}
use Rattle.ltx_top.specs.Transcripts.{spaced_number}
use Rattle.ltx_top.proofs.ending.put_order.Given as goal

abbrev pub invariant-loop-tx : goal.invariant-loop-tx
invariant-loop-tx l = l.out.items ≡ l.initial.out.items ++ flat_map spaced_number (take l.tx-index l.order)
