use Rattle.std.proofs.Common.{◌≡◌, ◌==◌, true, arith}
use Rattle.std.proofs.lemmas.Grind.{common_steps}
use Rattle.ltx_check.specs.Opens.{is_seat}
use Rattle.ltx_check.proofs.Seats.{without_none, without_at}
use Rattle.ltx_check.proofs.desk.place_of.Goals as goal

pub returns-then-eq-clause-some : goal.returns-then-eq-clause-some
returns-then-eq-clause-some c =
    let seat = c.index-seats-place.result in
    let passes : (seat.session == c.args.session) ≡ true = grind (arith, common_steps) in
    without_at (is_seat c.args.session) c.args.seats.now c.loop-place.place seat (omega (arith, c.loop-place-test.true)) c.index-seats-place.is c.loop-place.invariant passes

pub returns-clause-none : goal.returns-clause-none
returns-clause-none c = without_none (is_seat c.args.session) c.args.seats.now (grind (arith, common_steps, c.loop-place.invariant))
