use Rattle.ltx_buffer.proofs.Rows.{put_more}
use Rattle.ltx_buffer.proofs.merge.put_all.Goals as goal

pub loop-write-preserved : goal.loop-write-preserved
loop-write-preserved c = put_more c.args.merged.now.items c.loop-write.merged.items c.put.new.merged.items c.args.own.now c.loop-write.write-index c.write-item.result c.loop-write-test.true c.write-item.is c.loop-write.invariant c.in_ok-put.ensures
