use Rattle.std.proofs.Common.{arith, ◌∙◌}
use Rattle.ltx_model.proofs.Words.{ended}
use Rattle.ltx_model.proofs.bytes.compare_each.Goals as goal

pub returns : goal.returns
returns c = c.cmp-2.ensures ∙ ended c.loop-i.i c.args.a.now c.args.b.now (omega arith) ∙ c.loop-i.invariant
