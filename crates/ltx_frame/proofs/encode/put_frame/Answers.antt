use Rattle.std.proofs.Common.{rules, length}
use Rattle.std.proofs.lemmas.Result.{on_ok_weaker}
use Rattle.ltx_frame.specs.Events.{events_of}
use Rattle.ltx_frame.proofs.EventLemmas.{body_put, counted}
use Rattle.ltx_frame.proofs.encode.put_frame.Goals as goal

pub returns-clause-ok : goal.returns-clause-ok
returns-clause-ok c =
    on_ok_weaker c.put_events.result
    (body_put c.args.frame.now c.args.out.now.items c.put_bytes.new.out.items c.put_bytes-2.new.out.items c.put_events.new.out.items
    c.epoch.result (length c.events-events.result.now) (events_of c.events-events.result.now) c.epoch.ensures.value
    (counted c.events-events.result.now c.args.frame.now.events c.events-events.ensures.value) c.events-events.ensures.value (search rules) (search rules))
    c.put_events.ensures.ok
