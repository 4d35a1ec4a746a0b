use Rattle.std.proofs.Common.{ℕ, Option, subst, ap, ◌∙◌}
use Rattle.ltx_model.specs.Batches.{IsTarget}
use Rattle.ltx_forward.specs.Refusals.{waits_by}
use Rattle.ltx_forward.proofs.Decided.{unawaited_home, waited_for}
use Rattle.ltx_forward.proofs.KeptMembers.{kept_members, target_member}
use Rattle.ltx_forward.proofs.Placeable.{placeable}
use Rattle.ltx_model.specs.Decisions.{IsPlace, place_by}
use Rattle.ltx_forward.proofs.decide.waits_for.Goals as goal

pub target_of-requires : goal.target_of-requires
target_of-requires c = record { placeable = placeable c.args.tx.now c.args.writes.now c.args.lives.now c.args.records.now c.args.agenda.now c.requires.asked }

pub returns-in_default : goal.returns-in_default
returns-in_default c s i asked = unawaited_home s i c.args.tx.now c.args.writes.now c.args.lives.now c.args.records.now c.args.agenda.now asked (subst (λ (o : Option ℕ). IsPlace s i (place_by o)) c.in_default.is (c.in_ok-p.ensures.place s i c.args.writes.now asked))

pub refusal_at-requires-clause-kept : goal.refusal_at-requires-clause-kept
refusal_at-requires-clause-kept c =
    let r = c.requires.asked in
    kept_members r.state r.batch c.args.tx.now c.args.writes.now c.args.lives.now c.args.records.now c.args.agenda.now r.asked

pub refusal_at-requires-clause-place : goal.refusal_at-requires-clause-place
refusal_at-requires-clause-place c =
    let r = c.requires.asked in
    target_member r.state r.batch c.args.tx.now c.args.writes.now c.args.lives.now c.args.records.now c.args.agenda.now r.asked c.in-Some.p
    (subst (λ (o : Option ℕ). IsPlace r.state r.batch (place_by o)) c.in-Some.is (c.in_ok-p.ensures.place r.state r.batch c.args.writes.now r.asked))

pub waits_at-requires : goal.waits_at-requires
waits_at-requires c =
    let r = c.requires.asked in
    record {
      place = target_member r.state r.batch c.args.tx.now c.args.writes.now c.args.lives.now c.args.records.now c.args.agenda.now r.asked c.in-Some.p
          (subst (λ (o : Option ℕ). IsPlace r.state r.batch (place_by o)) c.in-Some.is (c.in_ok-p.ensures.place r.state r.batch c.args.writes.now r.asked));
    }

pub returns : goal.returns
returns c s i asked =
    let t : IsTarget s i c.in-Some.p = subst (λ (o : Option ℕ). IsPlace s i (place_by o)) c.in-Some.is (c.in_ok-p.ensures.place s i c.args.writes.now asked) in
    waited_for s i c.args.tx.now c.args.writes.now c.args.lives.now c.args.records.now c.args.agenda.now asked c.in-Some.p t c.in_ok-refusal.refusal c.waits_at.result (c.in_ok-refusal.ensures s i c.args.writes.now c.args.lives.now asked t)
    (c.waits_at.ensures s i c.args.records.now asked ∙ ap (waits_by s i c.in-Some.p) c.is_some.ensures)
