-- The reply to the commit of a live batch is the one that its decision is.
use Rattle.std.proofs.Common.{◌≡◌, inl, inr, ℕ, Option, Some, None, refl, ap, ◌∙◌, subst}
use Rattle.ltx_model.specs.declared.writes.Target.TheVariants as targets
use Rattle.ltx_model.specs.States.{Base, State, LiveBatch}
use Rattle.ltx_model.specs.Answers.{commit_at, commit_live}
use Rattle.ltx_model.specs.Batches.{target, IsTarget, IsOvertakenLive, overtaken_live, Refusal, ByLate, ByContradicts, Witness, IsLate, first_late, first_contradicted, late_or, first_witness, HasWitness, MayRead, waits, Waits}
use Rattle.ltx_model.specs.Decisions.{Decision, CommitAt, WaitFor, RefuseAt, reply_to, IsForwarded, IsDecision}
use Rattle.ltx_laws.specs.Structure.{Structure}
use Rattle.ltx_laws.proofs.FirstLate.{first_late_is}
use Rattle.ltx_laws.proofs.Priorities.{nobody_no_target}
use Rattle.ltx_laws.proofs.WaitsFor.{overtaken_live_is, witness_stands, waits_is}
use Rattle.ltx_laws.proofs.WitnessBatches.{target_once, target_found_is, first_late_found, first_contradicted_found, waits_found}

module _ (base : Base) (s : State) (structure : Structure base s) (i : LiveBatch) where
  at_target : (p : ℕ) (k : Option ℕ) (r : Option Refusal) → target s i ≡ Some p → first_witness s i p ≡ r → waits s i p r ≡ k → commit_live s i (target s i) ≡ commit_at s p k r
  at_target p k r goal first free = ap (commit_live s i) goal ∙ ap (λ w. commit_at s p (waits s i p w) w) first ∙ ap (λ j. commit_at s p j r) free

  none_live : ((j : ℕ) → IsOvertakenLive s i j → ⊥) → overtaken_live s i ≡ None
  none_live alone = by_live (overtaken_live s i) refl where
    by_live : (o : Option ℕ) → overtaken_live s i ≡ o → o ≡ None
    by_live None e = refl
    by_live (Some k) e = absurd (alone k (overtaken_live_is base s structure i k e).0)

  none_late : (p : ℕ) → ((v : Witness) → IsLate s i p v → ⊥) → first_late s i p ≡ None
  none_late p punctual = by_late (first_late s i p) refl where
    by_late : (o : Option Witness) → first_late s i p ≡ o → o ≡ None
    by_late None e = refl
    by_late (Some v) e = absurd (punctual v (first_late_is s i p v e).late)

  -- who is forwarded waits for nobody
  not_waiting : (p : ℕ) → IsForwarded s i p → (k : ℕ) → Waits s i k → ⊥
  not_waiting p f k (inl h) = f.unwitnessed (subst (HasWitness s i) (target_once base s structure i h.place p h.target f.target) h.witness)
  not_waiting p f k (inr h) = f.unread h.batch h.live (subst (λ q. MayRead s i q h.batch) (target_once base s structure i h.place p h.target f.target) h.reads)

  forwarded : (p : ℕ) → IsForwarded s i p → commit_live s i (target s i) ≡ commit_at s p None None
  forwarded p f = by_witness (first_witness s i p) refl where
    goal : target s i ≡ Some p
    goal = target_found_is base s structure i p f.target

    by_waits : (k : Option ℕ) → first_witness s i p ≡ None → waits s i p None ≡ k → commit_live s i (target s i) ≡ commit_at s p None None
    by_waits None first e = at_target p None None goal first e
    by_waits (Some k) first e = absurd (not_waiting p f k (waits_is base s structure i p goal k (ap (waits s i p) first ∙ e)))

    by_witness : (r : Option Refusal) → first_witness s i p ≡ r → commit_live s i (target s i) ≡ commit_at s p None None
    by_witness (Some r) e = absurd (f.unwitnessed (witness_stands base s structure i p r e))
    by_witness None e = by_waits (waits s i p None) e refl

  waiting : (k : ℕ) → Waits s i k → (p : ℕ) → IsTarget s i p → commit_live s i (target s i) ≡ reply_to s (WaitFor k)
  waiting k w p t = let goal = target_found_is base s structure i p t in at_target p (Some k) (first_witness s i p) goal refl (waits_found base s structure i p k goal w)

  -- the reply to the commit, by what is decided
  pub decided_reply : (d : Decision) → IsDecision s i d → commit_live s i (target s i) ≡ reply_to s d
  decided_reply (CommitAt targets.Home) nobody = ap (commit_live s i) (nobody_no_target s i nobody)
  decided_reply (CommitAt (targets.Before p)) f = forwarded p f
  decided_reply (WaitFor k) (inl h) = waiting k (inl h) h.place h.target
  decided_reply (WaitFor k) (inr h) = waiting k (inr h) h.place h.target
  decided_reply (RefuseAt p (ByLate w)) r =
      at_target p None (Some (ByLate w)) (target_found_is base s structure i p r.target) (ap (λ l. late_or l (first_contradicted s i p)) (first_late_found base s structure i p w r.witness)) (none_live r.alone)
  decided_reply (RefuseAt p (ByContradicts w)) r =
      at_target p None (Some (ByContradicts w)) (target_found_is base s structure i p r.target)
      (ap (λ l. late_or l (first_contradicted s i p)) (none_late p r.witness.0) ∙ ap (late_or None) (first_contradicted_found base s structure i p w r.witness.1)) (none_live r.alone)
