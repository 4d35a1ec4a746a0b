use Rattle.std.proofs.Common.{◌≡◌, take, false}
use Rattle.std.specs.List.{list_any}
use Rattle.ltx_check.specs.Opens.{is_seat}
use Rattle.ltx_check.proofs.desk.place_of.Given as goal

abbrev pub invariant-loop-place : goal.invariant-loop-place
invariant-loop-place l = list_any (is_seat l.session) (take l.place l.seats) ≡ false
