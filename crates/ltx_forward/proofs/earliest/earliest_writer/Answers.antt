use Rattle.std.proofs.Common.{sym, ◌∙◌, subst, ◌+◌}
use Rattle.std.proofs.lemmas.Bool.{both_ways}
use Rattle.ltx_forward.specs.Earliest.{Improves}
use Rattle.ltx_forward.proofs.Improving.{Given, given_start, given_more, given_less}
use Rattle.ltx_forward.proofs.Writers.{IsPassing, wrote_after, writer_member, writer_offered, writer_skipped, writers_all}
use Rattle.ltx_forward.proofs.earliest.earliest_writer.Goals.{then-before, else-before}
use Rattle.ltx_forward.proofs.earliest.earliest_writer.Goals as goal

pub loop-tx-init : goal.loop-tx-init
loop-tx-init c = given_start c.args.agenda.now.list (IsPassing c.args.agenda.now.list c.args.looking.now.tx c.args.looking.now.after) c.deref-tx-items.result.now c.args.best

pub before-requires-clause-first : goal.before-requires-clause-first
before-requires-clause-first c =
    writer_member c.args.records.now c.args.agenda.now.list (wrote_after c.args.looking.now.mark (record { table = c.args.table; key = c.args.key.now })) c.deref-tx-items.result.now (c.deref-tx-items.ensures.value ∙ c.in_ok-batches_writing.ensures)
    c.requires.kept c.tx-item.result (c.loop-tx.tx-index, c.loop-tx-test.true, sym c.tx-item.is)

pub earlier-found-requires-clause-best : goal.earlier-found-requires-clause-best
earlier-found-requires-clause-best c = c.loop-tx.invariant.member c.requires.best

pub earlier-found-requires-clause-member : goal.earlier-found-requires-clause-member
earlier-found-requires-clause-member c =
    writer_member c.args.records.now c.args.agenda.now.list (wrote_after c.args.looking.now.mark (record { table = c.args.table; key = c.args.key.now })) c.deref-tx-items.result.now (c.deref-tx-items.ensures.value ∙ c.in_ok-batches_writing.ensures)
    c.requires.kept c.tx-item.result (c.loop-tx.tx-index, c.loop-tx-test.true, sym c.tx-item.is)

pub loop-tx-preserved : goal.loop-tx-preserved
loop-tx-preserved c = elim c.if-before.branch [
  | then-before w ↦ subst (λ f. Improves c.args.agenda.now.list (Given c.args.agenda.now.list (IsPassing c.args.agenda.now.list c.args.looking.now.tx c.args.looking.now.after) c.deref-tx-items.result.now (c.loop-tx.tx-index + 1)) c.args.best f) (sym w.found-is)
      (given_more c.args.agenda.now.list (IsPassing c.args.agenda.now.list c.args.looking.now.tx c.args.looking.now.after) c.deref-tx-items.result.now c.loop-tx.tx-index c.tx-item.result _ _ _ c.loop-tx-test.true c.tx-item.is c.loop-tx.invariant
      (writer_offered c.args.agenda.now.list c.args.looking.now.tx c.args.looking.now.after c.tx-item.result _ _ (c.before-in-loop-tx.ensures.0 w.if-before.true) w.earlier-found.ensures))
  | else-before w ↦ subst (λ f. Improves c.args.agenda.now.list (Given c.args.agenda.now.list (IsPassing c.args.agenda.now.list c.args.looking.now.tx c.args.looking.now.after) c.deref-tx-items.result.now (c.loop-tx.tx-index + 1)) c.args.best f) (sym w.found-is)
      (given_less c.args.agenda.now.list (IsPassing c.args.agenda.now.list c.args.looking.now.tx c.args.looking.now.after) c.deref-tx-items.result.now c.loop-tx.tx-index c.tx-item.result _ _ c.loop-tx-test.true c.tx-item.is c.loop-tx.invariant
      (writer_skipped c.args.agenda.now.list c.args.looking.now.tx c.args.looking.now.after c.tx-item.result (λ ahead. both_ways c.before-in-loop-tx.result w.if-before.false (c.before-in-loop-tx.ensures.1 ahead))))
]

pub returns : goal.returns
returns c =
    writers_all c.args.records.now c.args.agenda.now.list c.args.looking.now.tx c.args.looking.now.mark c.args.looking.now.after (record { table = c.args.table; key = c.args.key.now }) c.deref-tx-items.result.now c.loop-tx.tx-index _ _
    (c.deref-tx-items.ensures.value ∙ c.in_ok-batches_writing.ensures) c.loop-tx-test.false c.loop-tx.invariant
