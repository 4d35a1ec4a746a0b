use Rattle.std.proofs.Common.{length}
use Rattle.ltx_store.specs.Walks.{IsScanned}
use Rattle.ltx_store.proofs.table.scan.Given as goal

-- what was walked so far is noted
abbrev pub invariant-loop-key : goal.invariant-loop-key
invariant-loop-key l = IsScanned l.low l.high l.mark l.table l.walk l.scanned.rows.items l.scanned.looks.items

-- the pairs that are left
abbrev pub decreases-loop-key : goal.decreases-loop-key
decreases-loop-key l = length l.walk
