use Rattle.std.proofs.Common.{length}
use Rattle.ltx_store.specs.Walks.{HasPassed}
use Rattle.ltx_store.proofs.table.next_put.Given as goal

-- what was walked so far has no row
abbrev pub invariant-loop-key : goal.invariant-loop-key
invariant-loop-key l = HasPassed l.from l.strict l.table l.walk

-- the pairs that are left
abbrev pub decreases-loop-key : goal.decreases-loop-key
decreases-loop-key l = length l.walk
