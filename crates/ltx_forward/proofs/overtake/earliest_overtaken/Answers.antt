use Rattle.std.proofs.Common.{None, ℕ, sym, subst, ◌∙◌, List}
use Rattle.std.proofs.lemmas.Result.{IfOk-weaker}
use Rattle.ltx_model.specs.declared.looked.Noted.{Noted}
use Rattle.ltx_forward.specs.Earliest.{Improves, IsAfter, IsHolder, IsWriterBy}
use Rattle.ltx_forward.proofs.Holders.{overtaken_all}
use Rattle.ltx_forward.proofs.overtake.earliest_overtaken.Goals as goal

pub returns : goal.returns
returns c = IfOk-weaker c.earliest_by_notes.result _ _ (λ found one.
    overtaken_all c.args.tx.now c.args.lives.now c.args.records.now c.args.agenda.now.list c.args.after c.in-Some.mark c.looked_into.result c.earliest_holder-elder.result found (sym c.mark.ensures ∙ c.in-Some.is) c.looked_into.ensures c.earliest_holder-elder.ensures.ranges
    (subst (λ (own : ℕ). Improves c.args.agenda.now.list (λ n. IsHolder c.args.lives.now own c.looked_into.result n × IsAfter c.args.agenda.now.list c.args.after n) None c.earliest_holder-elder.result) c.tx.ensures.value c.earliest_holder-elder.ensures.earliest)
    (subst (λ (own : ℕ). Improves c.args.agenda.now.list (λ n. IsWriterBy c.args.records.now c.args.agenda.now.list own c.in-Some.mark c.args.tx.now.list.notes n × IsAfter c.args.agenda.now.list c.args.after n) c.earliest_holder-elder.result found) c.tx.ensures.value
    (subst (λ (notes : List Noted). Improves c.args.agenda.now.list (λ n. IsWriterBy c.args.records.now c.args.agenda.now.list c.tx.result c.in-Some.mark notes n × IsAfter c.args.agenda.now.list c.args.after n) c.earliest_holder-elder.result found) c.noted.ensures.value one))) c.earliest_by_notes.ensures
