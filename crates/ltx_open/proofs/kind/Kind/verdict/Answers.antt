use Rattle.std.proofs.Common.{rules}
use Rattle.ltx_open.proofs.Judged.{judged_so}
use Rattle.ltx_open.proofs.kind.Kind.verdict.Goals as goal

pub returns-in-Short : goal.returns-in-Short
returns-in-Short c = judged_so c.check_short.result _ c.args.store.now c.args.preserve.now _ _ _ _ (search rules) (search rules) c.check_short.ensures.verdict
