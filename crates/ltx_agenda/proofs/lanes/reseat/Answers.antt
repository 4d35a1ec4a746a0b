use Rattle.std.proofs.Common.{◌≡◌, length, subst, arith}
use Rattle.ltx_agenda.specs.Seats.{seat_of}
use Rattle.ltx_agenda.specs.Placed.{IsReseated}
use Rattle.ltx_agenda.proofs.lanes.reseat.Goals as goal

pub returns-clause-anew : goal.returns-clause-anew
returns-clause-anew c =
    let upto = c.loop-k.auto.k-end in
    let past = c.loop-k-test.false in
    let len = c.len-k-end.ensures in
    let start = c.requires.start in
    let done : c.loop-k.k ≡ length c.args.run.now.items = omega arith in
    subst (λ k. IsReseated c.args.run.now.items c.args.at c.args.from k (seat_of c.args.seats.now) (seat_of c.loop-k.seats)) done c.loop-k.invariant.anew
