use Rattle.std.proofs.Common.{◌∙◌, sym}
use Rattle.ltx_check.proofs.RowSteps.{scan_reply}
use Rattle.ltx_check.proofs.rows.Rows.scans.Goals as goal

pub returns-clause-yes : goal.returns-clause-yes
returns-clause-yes c = λ so rows are. scan_reply rows c.args.table c.args.low.now c.args.high.now c.table.result.now (c.table.ensures rows are) ∙ c.are_rows.ensures.yes so

pub returns-clause-no : goal.returns-clause-no
returns-clause-no c = λ so rows are same. c.are_rows.ensures.no so (sym (scan_reply rows c.args.table c.args.low.now c.args.high.now c.table.result.now (c.table.ensures rows are)) ∙ same)
