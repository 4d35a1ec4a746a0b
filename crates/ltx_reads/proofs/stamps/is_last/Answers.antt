use Rattle.std.proofs.Common.{ap, sym, ◌∙◌}
use Rattle.ltx_reads.proofs.Ties.{last_is, last_at}
use Rattle.ltx_reads.proofs.stamps.is_last.Goals as goal

pub returns-in-Some : goal.returns-in-Some
returns-in-Some c = ap (λ o. last_is o c.args.stamp) c.in-Some.ensures.value ∙ sym (last_at c.args.stamps.now c.args.stamp)
