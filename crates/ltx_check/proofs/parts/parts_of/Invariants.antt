use Rattle.ltx_check.proofs.Gathering.{Gathered}
use Rattle.ltx_check.proofs.parts.parts_of.Given as goal

abbrev pub invariant-loop-place : goal.invariant-loop-place
invariant-loop-place l = Gathered l.entries l.place l.seats l.parts
