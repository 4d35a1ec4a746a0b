use Rattle.std.proofs.Common.{arith}
use Rattle.ltx_agenda.proofs.Walks.{total_next}
use Rattle.ltx_agenda.proofs.flat.spot_of.Goals as goal

pub loop-lane-preserved : goal.loop-lane-preserved
loop-lane-preserved c =
    let next = total_next c.args.lens.now c.loop-lane.lane c.loop-lane-test.true in
    let sofar = c.loop-lane.invariant in
    let past = c.if-left-len.false in
    omega arith
