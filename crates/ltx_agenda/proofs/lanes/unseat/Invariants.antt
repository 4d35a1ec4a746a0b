use Rattle.std.proofs.Common.{◌≤◌, take}
use Rattle.ltx_agenda.specs.Seats.{seat_of, spare_of}
use Rattle.ltx_agenda.proofs.Listings.{IsUnseated}
use Rattle.ltx_agenda.proofs.lanes.unseat.Given as goal

abbrev pub invariant-loop-tx : goal.invariant-loop-tx
invariant-loop-tx l = record {
  left : IsUnseated (take l.tx-index l.members) (seat_of l.fn.seats) (seat_of l.seats);
  spare : spare_of l.fn.seats ≤ spare_of l.seats;
}
