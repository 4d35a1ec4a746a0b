use Rattle.std.proofs.Common.{drop}
use Rattle.ltx_model.specs.Restored.{AreWrittenUpTo}
use Rattle.ltx_model.proofs.base.are_written_up_to.Given as goal

-- all rows are of such writers exactly where those to come are
abbrev pub invariant-loop-row : goal.invariant-loop-row
invariant-loop-row l = record {
  all : AreWrittenUpTo l.last (drop l.row-index l.rows) → AreWrittenUpTo l.last l.rows;
  rest : AreWrittenUpTo l.last l.rows → AreWrittenUpTo l.last (drop l.row-index l.rows);
}
