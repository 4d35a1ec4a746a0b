use Rattle.std.proofs.Common.{◌≡◌, ◌==◌, true, arith, sym}
use Rattle.std.proofs.lemmas.Grind.{common_steps}
use Rattle.ltx_check.specs.Opens.{is_seat}
use Rattle.ltx_check.proofs.Seats.{find_none, find_at}
use Rattle.ltx_check.proofs.desk.seat_of.Goals as goal

pub returns-then-eq : goal.returns-then-eq
returns-then-eq c =
    let seat = c.seat-item.result in
    let passes : (seat.session == c.args.session) ≡ true = grind (arith, common_steps) in
    sym (find_at (is_seat c.args.session) c.args.seats.now c.loop-seat.seat-index seat (omega (arith, c.loop-seat-test.true)) c.seat-item.is c.loop-seat.invariant passes)

pub returns : goal.returns
returns c = sym (find_none (is_seat c.args.session) c.args.seats.now (grind (arith, common_steps, c.loop-seat.invariant)))
