use Rattle.std.proofs.Common.{◌≡◌, drop}
use Rattle.ltx_model.specs.Keys.{key_cmp}
use Rattle.ltx_model.proofs.bytes.compare_each.Given as goal

abbrev pub invariant-loop-i : goal.invariant-loop-i
invariant-loop-i l = key_cmp (drop l.i l.a) (drop l.i l.b) ≡ key_cmp l.a l.b
