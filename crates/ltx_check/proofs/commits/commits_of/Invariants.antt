use Rattle.ltx_check.proofs.CommitSteps.{Committing}
use Rattle.ltx_check.proofs.commits.commits_of.Given as goal

abbrev pub invariant-loop-place : goal.invariant-loop-place
invariant-loop-place l = Committing l.entries l.place l.seats l.commits.items
