use Rattle.std.proofs.Common.{◌≡◌, ◌++◌, replicate}
use Rattle.ltx_model.specs.NoteLists.{marks_in, marks_in_last, runs_left}
use Rattle.ltx_model.proofs.notes.Marks.next.Given as goal

-- the marks are those that were to come
abbrev pub invariant-loop-self : goal.invariant-loop-self
invariant-loop-self l = replicate l.self-inside.count l.self-inside.mark ++ marks_in l.self-inside.later.now ++ marks_in_last l.self-inside.last
    ≡ replicate l.initial.self-inside.count l.initial.self-inside.mark ++ marks_in l.initial.self-inside.later.now ++ marks_in_last l.initial.self-inside.last

-- the runs that are left
abbrev pub decreases-loop-self : goal.decreases-loop-self
decreases-loop-self l = runs_left l.self-inside.later.now l.self-inside.last
