use Rattle.std.proofs.Common.{◌≡◌, length}
use Rattle.ltx_model.specs.Keys.{key_cmp}
use Rattle.ltx_model.proofs.bytes.compare_past.Given as goal

abbrev pub invariant-loop-x : goal.invariant-loop-x
invariant-loop-x l = key_cmp l.rest l.other ≡ key_cmp l.fn.a l.fn.b

abbrev pub decreases-loop-x : goal.decreases-loop-x
decreases-loop-x l = length l.rest
