use Rattle.std.proofs.Common.{length}
use Rattle.ltx_reads.specs.Stamped.{has_kept}
use Rattle.ltx_reads.proofs.Walks.{HasPassed}
use Rattle.ltx_reads.proofs.places.next_in.Given as goal

-- what was walked so far has no kept commit
abbrev pub invariant-loop-key : goal.invariant-loop-key
invariant-loop-key l = HasPassed (has_kept l.kept) l.from l.strict l.index l.walk

-- the pairs that are left
abbrev pub decreases-loop-key : goal.decreases-loop-key
decreases-loop-key l = length l.walk
