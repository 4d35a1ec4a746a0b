use Rattle.std.proofs.Common.{◌≡◌, ◌-◌}
use Rattle.ltx_frame.specs.Events.{events_of}
use Rattle.ltx_frame.specs.Readings.{event_at, items_at}
use Rattle.ltx_frame.proofs.Loops.{with_front}
use Rattle.ltx_frame.proofs.decode.events_in.Given as goal

abbrev pub invariant-loop : goal.invariant-loop
invariant-loop l = with_front (events_of l.events.items) (items_at event_at (l.count - l.counter) l.rest) ≡ items_at event_at l.count l.bytes
