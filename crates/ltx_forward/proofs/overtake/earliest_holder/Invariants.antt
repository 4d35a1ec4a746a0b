use Rattle.std.proofs.Common.{None, take, ◌<◌, ◌^◌}
use Rattle.std.specs.List.{AllByRecursion}
use Rattle.ltx_forward.specs.Earliest.{Improves}
use Rattle.ltx_forward.proofs.Improving.{Given}
use Rattle.ltx_forward.proofs.Holders.{IsHolding}
use Rattle.ltx_forward.proofs.overtake.earliest_holder.Given as goal

-- the earliest of those so far, whose sets of tables are in their range
abbrev pub invariant-loop-live : goal.invariant-loop-live
invariant-loop-live l = record {
  best : Improves l.agenda.list (Given l.agenda.list (IsHolding l.agenda.list l.looking.tx l.looked l.looking.after) l.lives l.live-index) None l.found;
  ranges : AllByRecursion (λ live. live.writes < 2 ^ 64) (take l.live-index l.lives);
}
