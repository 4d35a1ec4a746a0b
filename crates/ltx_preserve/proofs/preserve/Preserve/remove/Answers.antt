use Rattle.std.proofs.Common.{subst, sym, ap, ◌∙◌}
use Rattle.ltx_model.specs.Firsts.{IsFirst}
use Rattle.ltx_model.specs.Lists.{without_first}
use Rattle.ltx_model.proofs.FirstPlace.{without_first_at}
use Rattle.std.specs.Prelude.{slice_index_or, None}
use Rattle.ltx_model.specs.Holders.{is_holder}
use Rattle.ltx_preserve.specs.Kept.{IsKept}
use Rattle.ltx_preserve.proofs.Holding.{ended_holders, pending_ended}
use Rattle.ltx_preserve.proofs.preserve.Preserve.remove.Goals as goal

pub invariant_of-self : goal.invariant_of-self
invariant_of-self c =
    let first = subst (λ l. IsFirst (is_holder c.args.tx) l c.in-Some.place) c.deref.ensures.value c.in-Some.ensures.some in
    ended_holders c.args.tx c.self.inside.entered.items c.remove-ended.new.self.items c.in-Some.place c.remove-ended.result c.tables.result c.self.inside.least c.refresh.new.least first c.remove-ended.ensures.value c.remove-ended.ensures.items c.tables.ensures c.self.invariant
    (λ t within is. subst (λ l. IsKept l t (slice_index_or c.refresh.new.least t None)) c.deref-then-is_live.ensures.value (c.refresh.ensures.here t within is)) c.refresh.ensures.others

pub invariant_of-self-else-is_live : goal.invariant_of-self-else-is_live
invariant_of-self-else-is_live c =
    let first = subst (λ l. IsFirst (is_holder c.args.tx) l c.in-Some.place) c.deref.ensures.value c.in-Some.ensures.some in
    pending_ended c.args.tx c.self.inside.entered.items c.remove-ended.new.self.items c.in-Some.place c.remove-ended.result c.self.inside.least first c.remove-ended.ensures.value c.remove-ended.ensures.items (sym c.is_live.ensures ∙ c.if-is_live.false) c.self.invariant

pub returns-then-is_live : goal.returns-then-is_live
returns-then-is_live c =
    let first = subst (λ l. IsFirst (is_holder c.args.tx) l c.in-Some.place) c.deref.ensures.value c.in-Some.ensures.some in
    c.remove-ended.ensures.items ∙ sym (ap (without_first (is_holder c.args.tx)) (sym c.self.view_is) ∙ without_first_at (is_holder c.args.tx) c.self.inside.entered.items c.in-Some.place c.remove-ended.result first c.remove-ended.ensures.value)

pub returns-else-is_live : goal.returns-else-is_live
returns-else-is_live c =
    let first = subst (λ l. IsFirst (is_holder c.args.tx) l c.in-Some.place) c.deref.ensures.value c.in-Some.ensures.some in
    c.remove-ended.ensures.items ∙ sym (ap (without_first (is_holder c.args.tx)) (sym c.self.view_is) ∙ without_first_at (is_holder c.args.tx) c.self.inside.entered.items c.in-Some.place c.remove-ended.result first c.remove-ended.ensures.value)
