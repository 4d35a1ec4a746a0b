use Rattle.std.proofs.Common.{subst, arith, ap, ◌∙◌, sym, refl}
use Rattle.std.proofs.lemmas.List.{take_all}
use Rattle.ltx_agenda.specs.Seats.{seat_of}
use Rattle.ltx_agenda.proofs.Listings.{IsUnseated, unseated_more}
use Rattle.ltx_agenda.proofs.lanes.unseat.Goals as goal

pub loop-tx-init : goal.loop-tx-init
loop-tx-init c = record { left = λ n s is. (is, refl); spare = omega arith }

pub loop-tx-preserved : goal.loop-tx-preserved
loop-tx-preserved c =
    let number = c.number.ensures.value in
    let spare = c.take.ensures.spare in
    let before = c.loop-tx.invariant.spare in
    record {
      left = unseated_more c.args.members.now c.loop-tx.tx-index c.tx-item.result (seat_of c.args.seats.now) (seat_of c.loop-tx.seats) (seat_of c.take.new.self) c.loop-tx-test.true c.tx-item.is c.loop-tx.invariant.left
          (ap (seat_of c.take.new.self) (sym number) ∙ c.take.ensures.here) (λ m differ. c.take.ensures.others m (λ e. differ (e ∙ number)));
      spare = omega arith;
    }

pub returns-clause-left : goal.returns-clause-left
returns-clause-left c =
    subst (λ xs. IsUnseated xs (seat_of c.args.seats.now) (seat_of c.loop-tx.seats)) (take_all c.loop-tx.tx-index c.args.members.now c.loop-tx-test.false) c.loop-tx.invariant.left
