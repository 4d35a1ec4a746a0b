use Rattle.ltx_check.proofs.OneVerdict.{only_verdict}
use Rattle.ltx_check.proofs.verdict.check.Goals as goal

pub returns-clause-only : goal.returns-clause-only
returns-clause-only c = only_verdict c.args.text.now c.verdict_on.result c.verdict_on.ensures
