use Rattle.ltx_forward.specs.Earliest.{Improves}
use Rattle.ltx_forward.proofs.Improving.{Given}
use Rattle.ltx_forward.proofs.Writers.{IsPassing}
use Rattle.ltx_forward.proofs.earliest.earliest_writer.Given as goal

-- the earliest of those so far
abbrev pub invariant-loop-tx : goal.invariant-loop-tx
invariant-loop-tx l = Improves l.agenda.list (Given l.agenda.list (IsPassing l.agenda.list l.looking.tx l.looking.after) l.tx-items l.tx-index) l.fn.best l.found
