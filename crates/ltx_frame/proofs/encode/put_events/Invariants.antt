use Rattle.std.proofs.Common.{◌≡◌, ◌++◌, take, flat_map}
use Rattle.ltx_model.specs.Spellings.{event_bytes}
use Rattle.ltx_frame.specs.Events.{events_of}
use Rattle.ltx_frame.proofs.encode.put_events.Given as goal

abbrev pub invariant-loop-event : goal.invariant-loop-event
invariant-loop-event l = l.out.items ≡ l.initial.out.items ++ flat_map event_bytes (events_of (take l.event-index l.events))
