use Rattle.std.proofs.Common.{rules, ap}
use Rattle.std.proofs.lemmas.Result.{on_ok_weaker}
use Rattle.ltx_frame.specs.Events.{event_of, target_of}
use Rattle.ltx_frame.proofs.EventLemmas.{short_put, batch_put}
use Rattle.ltx_frame.proofs.pieces.put_event.Goals as goal

pub returns-in_ok-put_bytes-in-Short-clause-ok : goal.returns-in_ok-put_bytes-in-Short-clause-ok
returns-in_ok-put_bytes-in-Short-clause-ok c =
    on_ok_weaker c.put_writes.result
    (short_put (event_of c.args.event.now) c.args.out.now.items c.put_numbered-in-Short.new.out.items c.put_bytes.new.out.items c.put_writes.new.out.items
    c.in-Short.tx c.in-Short.epoch c.in-Short.writes c.items.result.now (ap event_of c.in-Short.is) c.items.ensures.value c.in_ok-put_numbered-in-Short.ensures.ok (search rules))
    c.put_writes.ensures.ok

pub returns-in_ok-put_target-in-Batch-clause-ok : goal.returns-in_ok-put_target-in-Batch-clause-ok
returns-in_ok-put_target-in-Batch-clause-ok c =
    on_ok_weaker c.put_writes-in-Batch.result
    (batch_put (event_of c.args.event.now) c.args.out.now.items c.put_numbered-in-Batch.new.out.items c.put_bytes-in-Batch.new.out.items c.put_target.new.out.items c.put_writes-in-Batch.new.out.items
    c.in-Batch.tx c.in-Batch.epoch (target_of c.in-Batch.target) c.in-Batch.writes c.items-in-Batch.result.now (ap event_of c.in-Batch.is) c.items-in-Batch.ensures.value
    c.in_ok-put_numbered-in-Batch.ensures.ok (search rules) c.in_ok-put_target-in-Batch.ensures.ok)
    c.put_writes-in-Batch.ensures.ok
