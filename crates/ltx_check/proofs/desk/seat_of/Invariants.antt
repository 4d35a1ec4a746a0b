use Rattle.std.proofs.Common.{◌≡◌, take, false}
use Rattle.std.specs.List.{list_any}
use Rattle.ltx_check.specs.Opens.{is_seat}
use Rattle.ltx_check.proofs.desk.seat_of.Given as goal

abbrev pub invariant-loop-seat : goal.invariant-loop-seat
invariant-loop-seat l = list_any (is_seat l.session) (take l.seat-index l.seats) ≡ false
