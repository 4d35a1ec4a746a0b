use Rattle.std.proofs.Common.{◌≡◌, map, take}
use Rattle.ltx_reads.specs.Stamped.{kept_of}
use Rattle.ltx_reads.proofs.kept.numbers.Given as goal

abbrev pub invariant-loop-stamp : goal.invariant-loop-stamp
invariant-loop-stamp l = l.found.items ≡ map (λ e. e.commit.number) (kept_of l.kept (take l.stamp-index l.stamps))
