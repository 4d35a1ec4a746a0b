use Rattle.std.proofs.Common.{◌≡◌, length, take, flat_map, subst}
use Rattle.ltx_model.specs.Spellings.{event_bytes}
use Rattle.ltx_frame.specs.Events.{events_of}
use Rattle.ltx_frame.proofs.Fronts.{front_of}
use Rattle.ltx_frame.proofs.EventLemmas.{event_fits}
use Rattle.ltx_frame.proofs.encode.put_events.Goals as goal

pub put_event-requires : goal.put_event-requires
put_event-requires c = rw c.event-item.is (event_fits c.args.events.now c.requires c.loop-event.event-index _ c.loop-event-test.true)

pub returns-in_err-put_event-clause-front : goal.returns-in_err-put_event-clause-front
returns-in_err-put_event-clause-front c =
    front_of c.args.out.now.items (flat_map event_bytes (events_of (take c.loop-event.event-index c.args.events.now))) c.put_event.new.out.items
    (subst (λ l. take (length l) c.put_event.new.out.items ≡ l) c.loop-event.invariant c.put_event.ensures.front)
