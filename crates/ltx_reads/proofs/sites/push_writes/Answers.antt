use Rattle.std.proofs.Common.{◌<◌, length, arith}
use Rattle.ltx_model.specs.Keys.{same_cell}
use Rattle.ltx_model.specs.Operations.{cell_of_write}
use Rattle.ltx_reads.specs.Places.{stamps_at}
use Rattle.ltx_reads.proofs.Indexed.{stamped_more}
use Rattle.ltx_reads.proofs.sites.push_writes.Goals as goal

pub loop-write-preserved : goal.loop-write-preserved
loop-write-preserved c =
    let within : c.loop-write.write-index < length c.args.writes.now = omega arith in
    stamped_more (λ cell w. same_cell (cell_of_write w) cell) c.args.stamp c.args.writes.now c.loop-write.write-index c.write-item.result (stamps_at c.args.places.now) _ _ within c.write-item.is c.loop-write.invariant c.in_ok-push.ensures.stamped
