use Rattle.ltx_forward.specs.Earliest.{IsOvertaken}
use Rattle.ltx_forward.proofs.InOrder.{AreFound, members_left}
use Rattle.ltx_forward.proofs.overtake.overtaken.Given as goal

-- those that were found so far, and the next one
abbrev pub invariant-loop-next : goal.invariant-loop-next
invariant-loop-next l = AreFound l.agenda.list (IsOvertaken l.tx l.lives l.records l.agenda.list) l.found.items l.next

-- the members from the next one on
abbrev pub decreases-loop-next : goal.decreases-loop-next
decreases-loop-next l = members_left l.agenda.list l.next
