use Rattle.ltx_forward.proofs.ContradictedWrites.{AreSpared}
use Rattle.ltx_forward.proofs.contradict.first_contradicted.Given as goal

-- the notes so far are spared
abbrev pub invariant-loop-place : goal.invariant-loop-place
invariant-loop-place l = AreSpared l.records l.agenda.list l.p l.notes l.place
