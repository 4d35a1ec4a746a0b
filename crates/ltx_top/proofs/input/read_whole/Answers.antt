use Rattle.std.proofs.Common.{◌∙◌}
use Rattle.ltx_top.proofs.Taken.{taken_more, taken_stops}
use Rattle.ltx_top.proofs.input.read_whole.Goals as goal

pub loop-stop-preserved : goal.loop-stop-preserved
loop-stop-preserved g c =
    let kept = c.loop-stop.invariant in
    let more = c.in-Ok-true.ensures.taken in
    record {
      taken = taken_more (g.S.Source.left c.args.source.now) (g.S.Source.left c.loop-stop.source) (g.S.Source.left c.take_more.new.source) c.loop-stop.bytes.items more.0 c.take_more.new.bytes.items kept.taken more.1 more.2;
      within = c.in-Ok-true.ensures.within;
      calm = c.in-Ok-true.ensures.calm ∙ kept.calm;
    }

pub returns-in-Err-clause-stops : goal.returns-in-Err-clause-stops
returns-in-Err-clause-stops g c =
    taken_stops (g.S.Source.left c.args.source.now) (g.S.Source.left c.loop-stop.source) (g.S.Source.left c.take_more.new.source) c.loop-stop.bytes.items c.in-Err.stop c.loop-stop.invariant.taken c.in-Err.ensures.stops
