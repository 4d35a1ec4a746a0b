use Rattle.std.proofs.Common.{length}
use Rattle.std.specs.List.{AllByRecursion}
use Rattle.ltx_model.specs.Spellings.{IsWithin}
use Rattle.ltx_events.proofs.limits.writes.Given as goal

abbrev pub invariant-loop-first : goal.invariant-loop-first
invariant-loop-first l = AllByRecursion IsWithin l.rest → AllByRecursion IsWithin l.writes

abbrev pub decreases-loop-first : goal.decreases-loop-first
decreases-loop-first l = length l.rest
