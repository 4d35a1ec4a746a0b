use Rattle.ltx_preserve.proofs.Holding.{looked_at}
use Rattle.ltx_preserve.proofs.preserve.least_holder.Goals as goal

pub loop-batch-preserved : goal.loop-batch-preserved
loop-batch-preserved c = looked_at c.args.table c.args.entered.now c.loop-batch.batch-index _ c.loop-batch.least _ c.loop-batch-test.true c.batch-item.is c.loop-batch.invariant c.lesser_holder-least.ensures
