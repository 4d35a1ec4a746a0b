use Rattle.std.proofs.Common.{rules}
use Rattle.ltx_check.proofs.RowSteps.{same_yes, same_no}
use Rattle.ltx_check.proofs.rows.is_key.Goals as goal

pub returns-clause-yes : goal.returns-clause-yes
returns-clause-yes c = same_yes c.args.key.now c.args.other.now c.is_eq.result (search rules)

pub returns-clause-no : goal.returns-clause-no
returns-clause-no c = same_no c.args.key.now c.args.other.now c.is_eq.result (search rules)
