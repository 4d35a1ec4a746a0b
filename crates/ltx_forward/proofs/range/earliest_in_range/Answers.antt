use Rattle.std.proofs.Common.{option_map, sym, ◌∙◌, subst, true}
use Rattle.ltx_forward.specs.WrittenKeys.{NextIn}
use Rattle.ltx_forward.proofs.WrittenWay.{IsOnWay, fewer_writes, way_start, way_more, way_less, way_end}
use Rattle.ltx_forward.proofs.range.earliest_in_range.Goals.{then-not-is_own+in_ok-found, else-not-is_own}
use Rattle.ltx_forward.proofs.range.earliest_in_range.Goals as goal

pub loop-next-init : goal.loop-next-init
loop-next-init c =
    way_start c.args.records.now c.args.agenda.now.list c.args.looking.now.tx c.args.looking.now.mark c.args.looking.now.after c.args.table c.args.low.now c.args.high.now c.args.own.now
    (option_map (λ key. key.now) c.next_written-next.result) c.args.best (rw (sym c.bytes.ensures.value) c.next_written-next.ensures)

pub earliest_writer-requires-clause-best : goal.earliest_writer-requires-clause-best
earliest_writer-requires-clause-best c = c.loop-next.invariant.done.member c.requires.best

pub loop-next-smaller : goal.loop-next-smaller
loop-next-smaller c =
    let way = subst (λ o. IsOnWay c.args.records.now c.args.agenda.now.list c.args.looking.now.tx c.args.looking.now.mark c.args.looking.now.after c.args.table c.args.low.now c.args.high.now c.args.own.now (option_map (λ key. key.now) o) c.args.best c.loop-next.found) c.in-Some.is c.loop-next.invariant in
    rw c.in-Some.is (fewer_writes c.args.records.now c.args.table c.args.high.now c.in-Some.key.now (option_map (λ key. key.now) c.next_written-next-in-Some.result) way.inside.2 (rw (sym c.bytes-in-Some.ensures.value) c.next_written-next-in-Some.ensures))

pub loop-next-preserved : goal.loop-next-preserved
loop-next-preserved c =
    let way = subst (λ o. IsOnWay c.args.records.now c.args.agenda.now.list c.args.looking.now.tx c.args.looking.now.mark c.args.looking.now.after c.args.table c.args.low.now c.args.high.now c.args.own.now (option_map (λ key. key.now) o) c.args.best c.loop-next.found) c.in-Some.is c.loop-next.invariant in
    let next : NextIn c.args.records.now c.args.table c.args.high.now c.in-Some.key.now true (option_map (λ key. key.now) c.next_written-next-in-Some.result) = rw (sym c.bytes-in-Some.ensures.value) c.next_written-next-in-Some.ensures in
    elim c.if-not-is_own.branch [
      | then-not-is_own+in_ok-found w ↦ rw w.found-is (way_more c.args.records.now c.args.agenda.now.list c.args.looking.now.tx c.args.looking.now.mark c.args.looking.now.after c.args.table c.args.low.now c.args.high.now c.args.own.now c.in-Some.key.now _ c.args.best _ _ way next (sym (c.is_own.ensures c.requires.ordered) ∙ w.if-not-is_own.true) w.in_ok-found.ensures)
      | else-not-is_own w ↦ rw w.found-is (way_less c.args.records.now c.args.agenda.now.list c.args.looking.now.tx c.args.looking.now.mark c.args.looking.now.after c.args.table c.args.low.now c.args.high.now c.args.own.now c.in-Some.key.now _ c.args.best _ way next (sym (c.is_own.ensures c.requires.ordered) ∙ w.if-not-is_own.false))
    ]

pub returns : goal.returns
returns c =
    let way = subst (λ o. IsOnWay c.args.records.now c.args.agenda.now.list c.args.looking.now.tx c.args.looking.now.mark c.args.looking.now.after c.args.table c.args.low.now c.args.high.now c.args.own.now (option_map (λ key. key.now) o) c.args.best c.loop-next.found) c.in_default.is c.loop-next.invariant in
    way_end c.args.records.now c.args.agenda.now.list c.args.looking.now.tx c.args.looking.now.mark c.args.looking.now.after c.args.table c.args.low.now c.args.high.now c.args.own.now c.args.best c.loop-next.found way
