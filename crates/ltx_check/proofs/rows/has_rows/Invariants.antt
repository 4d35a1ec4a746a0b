use Rattle.ltx_check.proofs.RowSteps.{Walked}
use Rattle.ltx_check.proofs.rows.has_rows.Given as goal

abbrev pub invariant-loop-row : goal.invariant-loop-row
invariant-loop-row l = Walked l.low l.high l.table l.walk l.rows l.row-index
