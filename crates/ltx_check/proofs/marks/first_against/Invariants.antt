use Rattle.std.proofs.Common.{drop}
use Rattle.ltx_check.proofs.Standing.{Standing}
use Rattle.ltx_check.proofs.marks.first_against.Given as goal

abbrev pub invariant-loop-at : goal.invariant-loop-at
invariant-loop-at l = Standing (drop l.at l.run) l.behind l.first
