use Rattle.std.proofs.Common.{◌≡◌, arith}
use Rattle.std.proofs.lemmas.Bool.Decides.{nat_tests}
use Rattle.ltx_agenda.proofs.Joined.{length-without_most}
use Rattle.ltx_agenda.proofs.Walks.{left_on}
use Rattle.ltx_agenda.proofs.flat.left_of.Goals as goal

pub overflow_add-left : goal.overflow_add-left
overflow_add-left c =
    let ne = c.ne.ensures in
    let yes = c.if-ne.true in
    let differ : c.member-item.result ≡ c.args.tx → ⊥ = grind (arith, nat_tests) in
    let on = left_on c.args.part.now c.loop-member.member-index c.args.tx c.member-item.result c.loop-member-test.true c.member-item.is differ in
    let sofar = c.loop-member.invariant in
    let most = length-without_most c.args.part.now c.args.tx in
    omega arith
