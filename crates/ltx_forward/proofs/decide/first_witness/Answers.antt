use Rattle.std.proofs.Common.{ℕ, Option, subst}
use Rattle.std.proofs.lemmas.Result.{IfOk-weaker}
use Rattle.ltx_forward.proofs.Decided.{unwitnessed_home, witnessed}
use Rattle.ltx_forward.proofs.KeptMembers.{kept_members, target_member}
use Rattle.ltx_forward.proofs.Placeable.{placeable}
use Rattle.ltx_model.specs.Decisions.{IsPlace, place_by}
use Rattle.ltx_forward.proofs.decide.first_witness.Goals as goal

pub target_of-requires : goal.target_of-requires
target_of-requires c = record { placeable = placeable c.args.tx.now c.args.writes.now c.args.lives.now c.args.records.now c.args.agenda.now c.requires.asked }

pub returns-in_default : goal.returns-in_default
returns-in_default c s i asked = unwitnessed_home s i c.args.tx.now c.args.writes.now c.args.lives.now c.args.records.now c.args.agenda.now asked (subst (λ (o : Option ℕ). IsPlace s i (place_by o)) c.in_default.is (c.in_ok-p.ensures.place s i c.args.writes.now asked))

pub refusal_at-requires-clause-kept : goal.refusal_at-requires-clause-kept
refusal_at-requires-clause-kept c =
    let r = c.requires.asked in
    kept_members r.state r.batch c.args.tx.now c.args.writes.now c.args.lives.now c.args.records.now c.args.agenda.now r.asked

pub refusal_at-requires-clause-place : goal.refusal_at-requires-clause-place
refusal_at-requires-clause-place c =
    let r = c.requires.asked in
    target_member r.state r.batch c.args.tx.now c.args.writes.now c.args.lives.now c.args.records.now c.args.agenda.now r.asked c.in-Some.p
    (subst (λ (o : Option ℕ). IsPlace r.state r.batch (place_by o)) c.in-Some.is (c.in_ok-p.ensures.place r.state r.batch c.args.writes.now r.asked))

pub returns : goal.returns
returns c = IfOk-weaker c.refusal_at.result _ _ (λ found is s i asked.
    let t = subst (λ (o : Option ℕ). IsPlace s i (place_by o)) c.in-Some.is (c.in_ok-p.ensures.place s i c.args.writes.now asked) in
    witnessed s i c.args.tx.now c.args.writes.now c.args.lives.now c.args.records.now c.args.agenda.now asked c.in-Some.p t found (is s i c.args.writes.now c.args.lives.now asked t)) c.refusal_at.ensures
