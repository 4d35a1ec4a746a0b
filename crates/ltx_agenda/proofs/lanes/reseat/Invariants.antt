use Rattle.std.proofs.Common.{◌≤◌}
use Rattle.ltx_agenda.specs.Seats.{seat_of, spare_of}
use Rattle.ltx_agenda.specs.Placed.{IsReseated}
use Rattle.ltx_agenda.proofs.lanes.reseat.Given as goal

abbrev pub invariant-loop-k : goal.invariant-loop-k
invariant-loop-k l = record {
  anew : IsReseated l.run.items l.at l.from l.k (seat_of l.fn.seats) (seat_of l.seats);
  spare : spare_of l.fn.seats ≤ spare_of l.seats;
}
