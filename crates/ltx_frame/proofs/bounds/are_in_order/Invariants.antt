use Rattle.std.proofs.Common.{length, ◌≤◌}
use Rattle.ltx_frame.specs.Events.{events_of}
use Rattle.ltx_frame.specs.Orders.{AreInOrder}
use Rattle.ltx_frame.proofs.bounds.are_in_order.Given as goal

abbrev pub invariant-loop-event : goal.invariant-loop-event
invariant-loop-event l = record {
  low : l.last ≤ l.fn.highest;
  up : AreInOrder l.last l.fn.highest (events_of l.rest) → AreInOrder 0 l.fn.highest (events_of l.fn.events);
  down : AreInOrder 0 l.fn.highest (events_of l.fn.events) → AreInOrder l.last l.fn.highest (events_of l.rest);
}

abbrev pub decreases-loop-event : goal.decreases-loop-event
decreases-loop-event l = length l.rest
