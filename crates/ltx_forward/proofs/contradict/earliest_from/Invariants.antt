use Rattle.std.proofs.Common.{take}
use Rattle.ltx_forward.specs.Contradicted.{IsFoundFrom}
use Rattle.ltx_forward.proofs.contradict.earliest_from.Given as goal

-- it is the earliest of those so far
abbrev pub invariant-loop-member : goal.invariant-loop-member
invariant-loop-member l = IsFoundFrom l.agenda.list l.p (take l.member-index l.members) l.earliest
