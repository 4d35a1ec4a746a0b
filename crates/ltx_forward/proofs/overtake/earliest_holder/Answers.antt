use Rattle.std.proofs.Common.{None, sym, subst, ◌<◌, ◌^◌}
use Rattle.std.proofs.lemmas.Bool.{both_ways}
use Rattle.std.proofs.lemmas.List.{take_all}
use Rattle.std.specs.List.{AllByRecursion}
use Rattle.ltx_forward.specs.declared.decide.Live.{Live}
use Rattle.ltx_forward.proofs.Improving.{all_taken, given_start, given_more, given_less}
use Rattle.ltx_forward.proofs.Holders.{IsHolding, holder_offered, holders_all}
use Rattle.ltx_forward.proofs.overtake.earliest_holder.Goals.{then-preserves, else-preserves}
use Rattle.ltx_forward.proofs.overtake.earliest_holder.Goals as goal

pub loop-live-init : goal.loop-live-init
loop-live-init c = record {
  best = given_start c.args.agenda.now.list (IsHolding c.args.agenda.now.list c.args.looking.now.tx c.args.looked c.args.looking.now.after) c.args.lives.now None;
  ranges = tt;
}

pub earlier-found-requires-clause-best : goal.earlier-found-requires-clause-best
earlier-found-requires-clause-best c = c.loop-live.invariant.best.member tt

pub earlier-found-requires-clause-member : goal.earlier-found-requires-clause-member
earlier-found-requires-clause-member c = c.requires.others c.live-item.result (c.loop-live.live-index, c.loop-live-test.true, sym c.live-item.is)

pub loop-live-preserved : goal.loop-live-preserved
loop-live-preserved c = record {
  best = elim c.if-preserves.branch [
    | then-preserves w ↦ rw w.found-is (given_more c.args.agenda.now.list (IsHolding c.args.agenda.now.list c.args.looking.now.tx c.args.looked c.args.looking.now.after) c.args.lives.now c.loop-live.live-index c.live-item.result _ _ _ c.loop-live-test.true c.live-item.is c.loop-live.invariant.best
        (holder_offered c.args.agenda.now.list c.args.looking.now.tx c.args.looked c.args.looking.now.after c.live-item.result _ _ (c.preserves.ensures.holds.0 w.if-preserves.true) w.earlier-found.ensures))
    | else-preserves w ↦ rw w.found-is (given_less c.args.agenda.now.list (IsHolding c.args.agenda.now.list c.args.looking.now.tx c.args.looked c.args.looking.now.after) c.args.lives.now c.loop-live.live-index c.live-item.result _ _ c.loop-live-test.true c.live-item.is c.loop-live.invariant.best
        (λ n h. both_ways c.preserves.result w.if-preserves.false (c.preserves.ensures.holds.1 h.holds)))
  ];
  ranges = all_taken (λ (live : Live). live.writes < 2 ^ 64) c.args.lives.now c.loop-live.live-index c.live-item.result c.loop-live-test.true c.live-item.is c.loop-live.invariant.ranges c.preserves.ensures.range;
}

pub returns : goal.returns
returns c = record {
  earliest = holders_all c.args.agenda.now.list c.args.looking.now.tx c.args.looked c.args.looking.now.after c.args.lives.now c.loop-live.live-index None c.loop-live.found c.loop-live-test.false c.loop-live.invariant.best;
  ranges = subst (AllByRecursion (λ (live : Live). live.writes < 2 ^ 64)) (take_all c.loop-live.live-index c.args.lives.now c.loop-live-test.false) c.loop-live.invariant.ranges;
}
