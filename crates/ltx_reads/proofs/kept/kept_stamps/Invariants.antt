use Rattle.std.proofs.Common.{◌≡◌, map, take}
use Rattle.ltx_reads.specs.Stamped.{kept_of}
use Rattle.ltx_reads.proofs.kept.kept_stamps.Given as goal

abbrev pub invariant-loop-stamp : goal.invariant-loop-stamp
invariant-loop-stamp l = l.found.items ≡ map (λ e. e.stamp) (kept_of l.kept (take l.stamp-index l.stamps))
