use Rattle.std.proofs.Common.{subst, sym, ap, ◌∙◌, set}
use Rattle.std.specs.Prelude.{slice_index_or, None}
use Rattle.ltx_model.specs.Firsts.{IsFirst}
use Rattle.ltx_model.specs.Lists.{change_first}
use Rattle.ltx_model.proofs.FirstPlace.{change_first_at}
use Rattle.ltx_model.specs.Holders.{Holder, is_holder, live_from_now}
use Rattle.ltx_preserve.specs.Kept.{IsKept}
use Rattle.ltx_preserve.proofs.Holding.{live_holders, get_any}
use Rattle.ltx_preserve.proofs.preserve.Preserve.go_live.Goals as goal

pub invariant_of-self : goal.invariant_of-self
invariant_of-self c =
    let first = subst (λ l. IsFirst (is_holder c.args.tx) l c.in-Some.place) c.deref.ensures.value c.in-Some.ensures.some in
    live_holders c.args.tx c.self.inside.entered.items _ c.in-Some.place c.index_mut.result.now c.tables-tables.result c.self.inside.least c.refresh.new.least first c.index_mut.ensures.value (ap (λ h. set c.self.inside.entered.items c.in-Some.place h) c.go_live.ensures)
    (c.tables-tables.ensures ∙ ap (λ (h : Holder). h.tables) (sym (c.index_mut.ensures.value ∙ get_any c.self.inside.entered.items c.in-Some.place first.within c.index.result.now c.index_mut.result.now c.index.ensures))) c.self.invariant
    (λ t within is. subst (λ l. IsKept l t (slice_index_or c.refresh.new.least t None)) c.deref-in-Some.ensures.value (c.refresh.ensures.here t within is)) c.refresh.ensures.others

pub returns-in-Some : goal.returns-in-Some
returns-in-Some c =
    let first = subst (λ l. IsFirst (is_holder c.args.tx) l c.in-Some.place) c.deref.ensures.value c.in-Some.ensures.some in
    ap (λ h. set c.self.inside.entered.items c.in-Some.place h) c.go_live.ensures ∙ sym (ap (change_first (is_holder c.args.tx) live_from_now) (sym c.self.view_is) ∙ change_first_at (is_holder c.args.tx) live_from_now c.self.inside.entered.items c.in-Some.place c.index_mut.result.now first c.index_mut.ensures.value)
