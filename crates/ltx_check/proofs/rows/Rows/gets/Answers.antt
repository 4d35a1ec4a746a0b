use Rattle.std.proofs.Common.{◌∙◌, sym}
use Rattle.ltx_check.proofs.RowSteps.{get_reply}
use Rattle.ltx_check.proofs.rows.Rows.gets.Goals as goal

pub returns-clause-yes : goal.returns-clause-yes
returns-clause-yes c = λ so rows are. get_reply rows c.args.table c.args.key.now c.table.result.now (c.table.ensures rows are) ∙ c.is_found.ensures.yes so

pub returns-clause-no : goal.returns-clause-no
returns-clause-no c = λ so rows are same. c.is_found.ensures.no so (sym (get_reply rows c.args.table c.args.key.now c.table.result.now (c.table.ensures rows are)) ∙ same)
