use Rattle.std.proofs.Common.{ℕ, Option, subst, sym, ap, ◌∙◌, Some, None, is_some}
use Rattle.ltx_model.specs.Batches.{IsTarget}
use Rattle.ltx_forward.specs.Refusals.{IsFoundRefusal, waits_by}
use Rattle.ltx_forward.proofs.Decided.{at_home, decided_wait, decided_refusal, decided_forward}
use Rattle.ltx_forward.proofs.KeptMembers.{kept_members, target_member}
use Rattle.ltx_forward.proofs.Placeable.{placeable}
use Rattle.ltx_model.specs.Decisions.{IsPlace, place_by}
use Rattle.ltx_forward.proofs.decide.decide.Goals as goal

pub target_of-requires : goal.target_of-requires
target_of-requires c = record { placeable = placeable c.args.tx.now c.args.writes.now c.args.lives.now c.args.records.now c.args.agenda.now c.requires.asked }

pub returns-in_default : goal.returns-in_default
returns-in_default c s i asked = at_home s i c.args.tx.now c.args.writes.now c.args.lives.now c.args.records.now c.args.agenda.now asked (subst (λ (o : Option ℕ). IsPlace s i (place_by o)) c.in_default.is (c.in_ok-p.ensures.place s i c.args.writes.now asked))

pub refusal_at-requires-clause-kept : goal.refusal_at-requires-clause-kept
refusal_at-requires-clause-kept c =
    let r = c.requires.asked in
    kept_members r.state r.batch c.args.tx.now c.args.writes.now c.args.lives.now c.args.records.now c.args.agenda.now r.asked

pub refusal_at-requires-clause-place : goal.refusal_at-requires-clause-place
refusal_at-requires-clause-place c =
    let r = c.requires.asked in
    target_member r.state r.batch c.args.tx.now c.args.writes.now c.args.lives.now c.args.records.now c.args.agenda.now r.asked c.in-Some.p
    (subst (λ (o : Option ℕ). IsPlace r.state r.batch (place_by o)) c.in-Some.is (c.in_ok-p.ensures.place r.state r.batch c.args.writes.now r.asked))

pub waits_at-requires : goal.waits_at-requires
waits_at-requires c =
    let r = c.requires.asked in
    record {
      place = target_member r.state r.batch c.args.tx.now c.args.writes.now c.args.lives.now c.args.records.now c.args.agenda.now r.asked c.in-Some.p
          (subst (λ (o : Option ℕ). IsPlace r.state r.batch (place_by o)) c.in-Some.is (c.in_ok-p.ensures.place r.state r.batch c.args.writes.now r.asked));
    }

pub returns-in-Some-waits_at : goal.returns-in-Some-waits_at
returns-in-Some-waits_at c s i asked =
    let t : IsTarget s i c.in-Some.p = subst (λ (o : Option ℕ). IsPlace s i (place_by o)) c.in-Some.is (c.in_ok-p.ensures.place s i c.args.writes.now asked) in
    let found : IsFoundRefusal s i c.in-Some.p c.in_ok-refusal.refusal = c.in_ok-refusal.ensures s i c.args.writes.now c.args.lives.now asked t in
    let waits = sym c.in-Some-waits_at.is ∙ c.waits_at.ensures s i c.args.records.now asked ∙ ap (waits_by s i c.in-Some.p) c.is_some.ensures in
    decided_wait s i c.args.tx.now c.args.writes.now c.args.lives.now c.args.records.now c.args.agenda.now asked c.in-Some.p t c.in_ok-refusal.refusal c.in-Some-waits_at.batch found waits

pub returns-in-Some-refusal : goal.returns-in-Some-refusal
returns-in-Some-refusal c s i asked =
    let t : IsTarget s i c.in-Some.p = subst (λ (o : Option ℕ). IsPlace s i (place_by o)) c.in-Some.is (c.in_ok-p.ensures.place s i c.args.writes.now asked) in
    let found : IsFoundRefusal s i c.in-Some.p (Some c.in-Some-refusal.refused) = subst (IsFoundRefusal s i c.in-Some.p) c.in-Some-refusal.is (c.in_ok-refusal.ensures s i c.args.writes.now c.args.lives.now asked t) in
    let waits = sym c.in_default-waits_at.is ∙ c.waits_at.ensures s i c.args.records.now asked ∙ ap (waits_by s i c.in-Some.p) (c.is_some.ensures ∙ ap is_some c.in-Some-refusal.is) in
    decided_refusal s i c.args.tx.now c.args.writes.now c.args.lives.now c.args.records.now c.args.agenda.now asked c.in-Some.p t c.in-Some-refusal.refused found waits

pub returns-in-None : goal.returns-in-None
returns-in-None c s i asked =
    let t : IsTarget s i c.in-Some.p = subst (λ (o : Option ℕ). IsPlace s i (place_by o)) c.in-Some.is (c.in_ok-p.ensures.place s i c.args.writes.now asked) in
    let found : IsFoundRefusal s i c.in-Some.p None = subst (IsFoundRefusal s i c.in-Some.p) c.in-None.is (c.in_ok-refusal.ensures s i c.args.writes.now c.args.lives.now asked t) in
    let waits = sym c.in_default-waits_at.is ∙ c.waits_at.ensures s i c.args.records.now asked ∙ ap (waits_by s i c.in-Some.p) (c.is_some.ensures ∙ ap is_some c.in-None.is) in
    decided_forward s i c.args.tx.now c.args.writes.now c.args.lives.now c.args.records.now c.args.agenda.now asked c.in-Some.p t found waits
