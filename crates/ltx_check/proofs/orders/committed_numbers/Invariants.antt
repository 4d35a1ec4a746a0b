use Rattle.ltx_check.proofs.Told.{Tells}
use Rattle.ltx_check.proofs.orders.committed_numbers.Given as goal

abbrev pub invariant-loop-entry : goal.invariant-loop-entry
invariant-loop-entry l = Tells l.entries l.entry-index l.seats l.numbers.items
