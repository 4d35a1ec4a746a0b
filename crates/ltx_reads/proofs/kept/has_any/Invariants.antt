use Rattle.std.proofs.Common.{◌≡◌, false, take}
use Rattle.ltx_reads.specs.Stamped.{has_kept}
use Rattle.ltx_reads.proofs.kept.has_any.Given as goal

abbrev pub invariant-loop-stamp : goal.invariant-loop-stamp
invariant-loop-stamp l = has_kept l.kept (take l.stamp-index l.stamps) ≡ false
