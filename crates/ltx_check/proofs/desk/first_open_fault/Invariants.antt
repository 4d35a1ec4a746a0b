use Rattle.ltx_check.proofs.Placed.{Read}
use Rattle.ltx_check.proofs.desk.first_open_fault.Given as goal

abbrev pub invariant-loop-place : goal.invariant-loop-place
invariant-loop-place l = Read l.entries l.place l.seats
