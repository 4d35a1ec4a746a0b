use Rattle.std.proofs.Common.{◌≡◌, ◌++◌, ◌∷◌, []}
use Rattle.std.proofs.lemmas.Result.{err_from_is_err_and}
use Rattle.std.proofs.lemmas.List.{map_push}
use Rattle.ltx_frame.specs.Events.{event_of, events_of}
use Rattle.ltx_frame.specs.Readings.{event_at, items_at}
use Rattle.ltx_frame.proofs.Loops.{goes_on, ends, is_done}
use Rattle.ltx_frame.proofs.decode.events_in.Goals as goal

pub returns-in_err-event : goal.returns-in_err-event
returns-in_err-event c =
    let p = err_from_is_err_and c.from_residual.result c.from_residual.ensures.1 in
    rw (p.1, p.2) (ends event_at c.in_err-event.field-0.0 (events_of c.loop.events.items) c.args.count c.loop.counter c.loop.rest.now (items_at event_at c.args.count c.args.bytes.now) c.loop-test.true c.in_err-event.ensures c.loop.invariant)

pub loop-preserved : goal.loop-preserved
loop-preserved c =
    let more : events_of c.push.new.self.items ≡ events_of c.loop.events.items ++ event_of c.in_ok-event.event ∷ [] = rw c.in_ok-push.ensures.items (map_push _ c.loop.events.items c.in_ok-event.event) in
    rw more (goes_on event_at (events_of c.loop.events.items) c.args.count c.loop.counter c.loop.rest.now (event_of c.in_ok-event.event) c.in_ok-event.behind.now (items_at event_at c.args.count c.args.bytes.now) c.loop-test.true c.in_ok-event.ensures c.loop.invariant)

pub returns : goal.returns
returns c = is_done event_at (events_of c.loop.events.items) c.args.count c.loop.counter c.loop.rest.now (items_at event_at c.args.count c.args.bytes.now) c.loop-test.false c.loop.invariant
