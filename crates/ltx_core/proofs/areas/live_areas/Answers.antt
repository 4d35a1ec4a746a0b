use Rattle.std.proofs.Common.{◌≡◌, ◌+◌, ◌++◌, ◌∷◌, [], suc, drop, sym, ap, ◌∙◌, subst, append_assoc, arith}
use Rattle.std.specs.Option.{is_some}
use Rattle.ltx_core.specs.Recorded.{areas_of_live}
use Rattle.ltx_core.proofs.LiveWalks.{areas_live_next, areas_pending_next}
use Rattle.ltx_core.proofs.areas.live_areas.Goals as goal
use Rattle.ltx_core.proofs.areas.live_areas.Goals.{then-is_none+in_ok-push, else-is_none}

pub loop-place-preserved : goal.loop-place-preserved
loop-place-preserved c =
    let next : c.loop-place.place + 1 ≡ suc c.loop-place.place = omega arith in
    subst (λ k. c.if-is_none.lives.items ++ areas_of_live (drop k c.args.preserve.now) (drop k c.args.areas.now) ≡ areas_of_live c.args.preserve.now c.args.areas.now) (sym next)
    (elim c.if-is_none.branch [
      | then-is_none+in_ok-push w ↦ ap (λ v. v.items ++ areas_of_live (drop (suc c.loop-place.place) c.args.preserve.now) (drop (suc c.loop-place.place) c.args.areas.now)) w.lives-is
          ∙ ap (λ l. l ++ areas_of_live (drop (suc c.loop-place.place) c.args.preserve.now) (drop (suc c.loop-place.place) c.args.areas.now)) w.in_ok-push.ensures.items
          ∙ append_assoc c.loop-place.lives.items (w.copy_of.result ∷ []) (areas_of_live (drop (suc c.loop-place.place) c.args.preserve.now) (drop (suc c.loop-place.place) c.args.areas.now))
          ∙ ap (λ l. c.loop-place.lives.items ++ l) (sym (areas_live_next c.args.preserve.now c.args.areas.now c.loop-place.place w.index-areas-place.result w.copy_of.result c.requires.all
          c.loop-place-test.true (sym w.index-areas-place.is ∙ sym w.copy_of.ensures) (ap is_some (sym c.pending_at.ensures) ∙ w.if-is_none.ensures)))
          ∙ c.loop-place.invariant
      | else-is_none w ↦ ap (λ v. v.items ++ areas_of_live (drop (suc c.loop-place.place) c.args.preserve.now) (drop (suc c.loop-place.place) c.args.areas.now)) w.lives-is
          ∙ ap (λ l. c.loop-place.lives.items ++ l) (sym (areas_pending_next c.args.preserve.now c.args.areas.now c.loop-place.place c.requires.all (ap is_some (sym c.pending_at.ensures) ∙ w.if-is_none.ensures)))
          ∙ c.loop-place.invariant
    ])
