use Rattle.std.proofs.Common.{take, sym, subst}
use Rattle.ltx_forward.specs.Contradicted.{IsFoundFrom}
use Rattle.ltx_forward.proofs.EarliestReaders.{front_more, front_all}
use Rattle.ltx_forward.proofs.contradict.earliest_from.Goals as goal

pub loop-member-preserved : goal.loop-member-preserved
loop-member-preserved c =
    subst (λ ns. IsFoundFrom c.args.agenda.now.list c.args.p ns c.earlier_from-earliest.result)
    (sym (front_more c.args.members.now c.loop-member.member-index c.member-item.result c.loop-member-test.true c.member-item.is))
    (c.earlier_from-earliest.ensures (take c.loop-member.member-index c.args.members.now) c.loop-member.invariant)

pub returns : goal.returns
returns c =
    subst (λ ns. IsFoundFrom c.args.agenda.now.list c.args.p ns c.loop-member.earliest)
    (front_all c.args.members.now c.loop-member.member-index c.loop-member-test.false) c.loop-member.invariant
