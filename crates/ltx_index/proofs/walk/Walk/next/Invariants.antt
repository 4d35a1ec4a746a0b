use Rattle.std.proofs.Common.{◌≡◌, ◌++◌, length}
use Rattle.std.specs.List.{zip}
use Rattle.ltx_index.specs.Leaves.{pairs_of}
use Rattle.ltx_index.proofs.walk.Walk.next.Given as goal

abbrev pub invariant-loop-key : goal.invariant-loop-key
invariant-loop-key g l = zip l.self-inside.keys.now l.self-inside.values.now ++ pairs_of l.self-inside.later.now ≡ zip l.initial.self-inside.keys.now l.initial.self-inside.values.now ++ pairs_of l.initial.self-inside.later.now

abbrev pub decreases-loop-key : goal.decreases-loop-key
decreases-loop-key g l = length l.self-inside.later.now
