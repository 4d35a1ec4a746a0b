-- Events as the definitions of the log see them.
use Rattle.std.specs.Prelude.{ℕ, List, map, Option, Some, None}
use Rattle.ltx_model.specs.declared.writes.Target.{Target}
use Rattle.ltx_model.specs.declared.writes.Target.TheVariants as targets
use Rattle.ltx_model.specs.Frames.{LogEvent, SlotEvent, ShortEvent, BatchEvent, Frame}
use Rattle.ltx_frame.specs.declared.event.Event.{Event}
use Rattle.ltx_frame.specs.declared.event.Event.TheVariants as events

-- the target of a place in the order, where there is one
abbrev pub target_of : Target → Option ℕ
target_of targets.Home = None
target_of (targets.Before target) = Some target

-- an event of the log
abbrev pub event_of : Event → LogEvent
event_of (events.Slot tx) = SlotEvent tx
event_of (events.Short tx epoch writes) = ShortEvent tx epoch writes
event_of (events.Batch tx epoch target writes) = BatchEvent tx epoch (target_of target) writes

-- events of the log
abbrev pub events_of : List Event → List LogEvent
events_of es = map event_of es

-- an epoch and events, as a frame of the log
abbrev pub frame_of : ℕ → List Event → Frame
frame_of epoch es = record { epoch = epoch; events = events_of es }
