use Rattle.ltx_forward.specs.Earliest.{Improves, IsAfter, IsWriterFor}
use Rattle.ltx_forward.proofs.Improving.{Given}
use Rattle.ltx_forward.proofs.overtake.earliest_by_notes.Given as goal

-- the earliest of those who wrote what the notes so far look up
abbrev pub invariant-loop-note : goal.invariant-loop-note
invariant-loop-note l = Improves l.agenda.list (Given l.agenda.list (λ note n. IsWriterFor l.records l.agenda.list l.looking.tx l.looking.mark note n × IsAfter l.agenda.list l.looking.after n) l.notes l.note-index) l.fn.best l.found
