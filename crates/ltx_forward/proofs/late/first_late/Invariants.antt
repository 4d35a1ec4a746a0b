use Rattle.ltx_forward.specs.Lates.{stands_from}
use Rattle.ltx_forward.proofs.LateNotes.{ArePassed}
use Rattle.ltx_forward.proofs.late.first_late.Given as goal

-- the notes so far have no late look
abbrev pub invariant-loop-place : goal.invariant-loop-place
invariant-loop-place l = ArePassed (stands_from l.agenda.list l.p) l.place l.fn.tx.list.notes
