use Rattle.std.proofs.Common.{length}
use Rattle.std.specs.List.{AllByRecursion}
use Rattle.ltx_frame.specs.Events.{events_of}
use Rattle.ltx_events.specs.Kept.{IsTyped}
use Rattle.ltx_events.proofs.limits.events.Given as goal

abbrev pub invariant-loop-first : goal.invariant-loop-first
invariant-loop-first l = AllByRecursion IsTyped (events_of l.rest) → AllByRecursion IsTyped (events_of l.events)

abbrev pub decreases-loop-first : goal.decreases-loop-first
decreases-loop-first l = length l.rest
