use Rattle.std.proofs.Common.{◌≡◌, ◌++◌, map, length}
use Rattle.ltx_reads.specs.Merges.{merged}
use Rattle.ltx_reads.specs.Stamped.{kept_of}
use Rattle.ltx_reads.proofs.kept.numbers_of_both.Given as goal

abbrev pub invariant-loop-stamp : goal.invariant-loop-stamp
invariant-loop-stamp l = l.found.items ++ map (λ e. e.commit.number) (kept_of l.kept l.merge) ≡ map (λ e. e.commit.number) (kept_of l.kept (merged l.first l.second))

abbrev pub decreases-loop-stamp : goal.decreases-loop-stamp
decreases-loop-stamp l = length l.merge
