-- What the commit of a live batch is answered, by the relations.
use Rattle.std.proofs.Common.{◌≡◌, inl, inr, ℕ, Bool, List, [], ◌∷◌, ◌++◌, Option, Some, None, refl, ap, ◌∙◌}
use Rattle.ltx_model.specs.declared.commands.Verb.TheVariants as verbs
use Rattle.ltx_model.specs.declared.commands.Line.{Line}
use Rattle.ltx_model.specs.declared.replies.Entry.{Entry}
use Rattle.ltx_model.specs.declared.replies.Reply.{Reply}
use Rattle.ltx_model.specs.declared.replies.Reply.TheVariants as replies
use Rattle.ltx_model.specs.Operations.{Transaction}
use Rattle.ltx_model.specs.States.{Declaration, IsLive, Active, Base, IsSound, State, LiveBatch}
use Rattle.ltx_model.specs.Histories.{state}
use Rattle.ltx_model.specs.Batches.{target, IsTarget, IsOvertakenLive, overtaken_live, Witness, IsLate, IsFirstLate, first_late, IsFirstContradicted, first_contradicted, Refusal, ByLate, ByContradicts, late_or, first_witness, HasWitness, waits, Waits}
use Rattle.ltx_model.specs.Answers.{commit_live, commit_at, IsLegalWith}
use Rattle.ltx_laws.specs.Structure.{Structure}
use Rattle.ltx_laws.specs.Priority.{AsksCommit, batch_of}
use Rattle.ltx_laws.specs.Answered.{IsAnswered}
use Rattle.ltx_laws.proofs.Transitions.{asks}
use Rattle.ltx_laws.proofs.LiveStates.{structured}
use Rattle.ltx_laws.proofs.FirstLate.{first_late_is}
use Rattle.ltx_laws.proofs.WaitsFor.{overtaken_live_is, witness_stands, waits_is}
use Rattle.ltx_laws.proofs.WitnessBatches.{target_found_is, first_late_found, first_contradicted_found, waits_found}
use Rattle.ltx_laws.proofs.Priorities.{answer_commit}
use Rattle.ltx_laws.proofs.PlacesByCommit.{before_legal, entry_is}
use Rattle.ltx_laws.proofs.AnsweredShorts.{answered_by}

module _ (base : Base) (s : State) (inv : Structure base s) (i : LiveBatch) where
  at_target : (p : ℕ) (k : Option ℕ) (r : Option Refusal) → target s i ≡ Some p → first_witness s i p ≡ r → waits s i p r ≡ k → commit_live s i (target s i) ≡ commit_at s p k r
  at_target p k r goal first free = ap (commit_live s i) goal ∙ ap (λ w. commit_at s p (waits s i p w) w) first ∙ ap (λ j. commit_at s p j r) free

  waiting : (k : ℕ) → Waits s i k → commit_live s i (target s i) ≡ replies.Waiting k
  waiting k w = by_target (place w) where
    place : Waits s i k → (p : ℕ) × IsTarget s i p
    place (inl h) = (h.place, h.target)
    place (inr h) = (h.place, h.target)

    by_target : (p : ℕ) × IsTarget s i p → commit_live s i (target s i) ≡ replies.Waiting k
    by_target (p, t) =
        let goal : target s i ≡ Some p = target_found_is base s inv i p t in
        at_target p (Some k) (first_witness s i p) goal refl (waits_found base s inv i p k goal w)

  module _ (p : ℕ) (t : IsTarget s i p) where
    goal : target s i ≡ Some p
    goal = target_found_is base s inv i p t

    none_live : ((j : ℕ) → IsOvertakenLive s i j → ⊥) → overtaken_live s i ≡ None
    none_live alone = by_live (overtaken_live s i) refl where
      by_live : (o : Option ℕ) → overtaken_live s i ≡ o → o ≡ None
      by_live None e = refl
      by_live (Some k) e = absurd (alone k (overtaken_live_is base s inv i k e).0)

    late : ((j : ℕ) → IsOvertakenLive s i j → ⊥) → (w : Witness) → IsFirstLate s i p w → commit_live s i (target s i) ≡ replies.Late p w.op w.cell.table w.cell.key w.other
    late alone w h = at_target p None (Some (ByLate w)) goal (ap (λ l. late_or l (first_contradicted s i p)) (first_late_found base s inv i p w h)) (none_live alone)

    contradicts : ((j : ℕ) → IsOvertakenLive s i j → ⊥) → ((v : Witness) → IsLate s i p v → ⊥) → (w : Witness) → IsFirstContradicted s i p w → commit_live s i (target s i) ≡ replies.Contradicts p w.op w.cell.table w.cell.key w.other
    contradicts alone punctual w h =
        at_target p None (Some (ByContradicts w)) goal (ap (λ l. late_or l (first_contradicted s i p)) (none_late_there (first_late s i p) refl) ∙ ap (late_or None) (first_contradicted_found base s inv i p w h)) (none_live alone) where
          none_late_there : (o : Option Witness) → first_late s i p ≡ o → first_late s i p ≡ None
          none_late_there None e = e
          none_late_there (Some v) e = absurd (punctual v (first_late_is s i p v e).late)

    forwarded : (HasWitness s i p → ⊥) → ((k : ℕ) → Waits s i k → ⊥) → commit_live s i (target s i) ≡ replies.CommittedBefore s.epoch p
    forwarded unwitnessed free = by_witness (first_witness s i p) refl where
      by_waits : (k : Option ℕ) → first_witness s i p ≡ None → waits s i p None ≡ k → commit_live s i (target s i) ≡ replies.CommittedBefore s.epoch p
      by_waits None first e = at_target p None None goal first e
      by_waits (Some k) first e = absurd (free k (waits_is base s inv i p goal k (ap (waits s i p) first ∙ e)))

      by_witness : (r : Option Refusal) → first_witness s i p ≡ r → commit_live s i (target s i) ≡ replies.CommittedBefore s.epoch p
      by_witness (Some r) e = absurd (unwitnessed (witness_stands base s inv i p r e))
      by_witness None e = by_waits (waits s i p None) e refl

module _ (built : State → Line → Bool) (base : Base) (history : List Entry) (entry : Entry) (sound : IsSound base) (legal : IsLegalWith built base (history ++ entry ∷ [])) (o : Active) (d : Declaration) (snapshot : List Transaction)
    (a : AsksCommit (state base history) entry o) (kind : o.kind ≡ IsLive d snapshot) where
  abbrev there : State
  there = state base history

  abbrev batch : LiveBatch
  batch = batch_of o d snapshot

  inv : Structure base there
  inv = structured built base history sound (before_legal built base history [] entry sound legal)

  by_answer : (reply : Reply) → commit_live there batch (target there batch) ≡ reply → IsAnswered built there entry reply
  by_answer reply e = answered_by built there entry (asks a.session verbs.Commit) reply (entry_is built base history [] entry sound legal) a.line (answer_commit there a.session o d snapshot a.opened kind ∙ e)

  pub waiting_answered : (k : ℕ) → Waits there batch k → IsAnswered built there entry (replies.Waiting k)
  waiting_answered k w = by_answer (replies.Waiting k) (waiting base there inv batch k w)

  pub late_answered : (p : ℕ) → IsTarget there batch p → ((j : ℕ) → IsOvertakenLive there batch j → ⊥) → (w : Witness) → IsFirstLate there batch p w → IsAnswered built there entry (replies.Late p w.op w.cell.table w.cell.key w.other)
  late_answered p t alone w h = by_answer (replies.Late p w.op w.cell.table w.cell.key w.other) (late base there inv batch p t alone w h)

  pub contradicts_answered : (p : ℕ) → IsTarget there batch p → ((j : ℕ) → IsOvertakenLive there batch j → ⊥) → ((v : Witness) → IsLate there batch p v → ⊥) → (w : Witness) → IsFirstContradicted there batch p w
      → IsAnswered built there entry (replies.Contradicts p w.op w.cell.table w.cell.key w.other)
  contradicts_answered p t alone punctual w h = by_answer (replies.Contradicts p w.op w.cell.table w.cell.key w.other) (contradicts base there inv batch p t alone punctual w h)

  pub forwarded_answered : (p : ℕ) → IsTarget there batch p → (HasWitness there batch p → ⊥) → ((k : ℕ) → Waits there batch k → ⊥) → IsAnswered built there entry (replies.CommittedBefore there.epoch p)
  forwarded_answered p t unwitnessed free = by_answer (replies.CommittedBefore there.epoch p) (forwarded base there inv batch p t unwitnessed free)
