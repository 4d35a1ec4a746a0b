use Rattle.std.proofs.Common.{◌≡◌, not, filter, take}
use Rattle.ltx_model.specs.Holders.{is_entered}
use Rattle.ltx_core.proofs.state.without_slots.Given as goal

-- those of the numbers so far
abbrev pub invariant-loop-tx : goal.invariant-loop-tx
invariant-loop-tx l = l.txs.items ≡ filter (λ n. not (is_entered l.fn.preserve n)) (take l.tx-index l.fn.members)
