use Rattle.ltx_store.proofs.Changes.{same_then, room_more}
use Rattle.ltx_store.proofs.store.Store.reserve.Goals as goal

pub returns-in_err-reserve_write-clause-same : goal.returns-in_err-reserve_write-clause-same
returns-in_err-reserve_write-clause-same c = same_then _ _ _ c.loop-write.invariant.same c.reserve_write.ensures.same

pub loop-write-preserved : goal.loop-write-preserved
loop-write-preserved c =
    record {
      same = same_then _ _ _ c.loop-write.invariant.same c.reserve_write.ensures.same;
      made = room_more _ _ c.args.writes.now c.loop-write.write-index c.write-item.result c.loop-write-test.true c.write-item.is c.reserve_write.ensures.same c.loop-write.invariant.made c.in_ok-reserve_write.ensures.made;
    }
