-- What is decided, from the target, the first witness there and whom the batch waits for.
use Rattle.std.proofs.Common.{◌≡◌, inl, inr, ℕ, true, false, List, Option, Some, None, is_some, refl, sym, ◌∙◌, subst}
use Rattle.ltx_model.specs.declared.writes.Target.TheVariants as targets
use Rattle.ltx_model.specs.declared.writes.Write.{Write}
use Rattle.ltx_model.specs.States.{State, LiveBatch}
use Rattle.ltx_model.specs.Records.{Records}
use Rattle.ltx_model.specs.Batches.{Overtakes, IsTarget, HasWitness, Refusal, ByLate, ByContradicts, Waits, MayRead}
use Rattle.ltx_model.specs.Decisions as decisions
use Rattle.ltx_model.specs.Decisions.{CommitAt, WaitFor, RefuseAt, IsFirstRefusal, IsDecision}
use Rattle.ltx_agenda.specs.Placed.{Listed}
use Rattle.ltx_long.specs.Longs.{Long}
use Rattle.ltx_forward.specs.declared.decide.Live.{Live}
use Rattle.ltx_forward.specs.declared.decide.Decision.{Decision}
use Rattle.ltx_forward.specs.declared.decide.Decision.TheVariants as given
use Rattle.ltx_forward.specs.declared.witness.Witness.{Witness}
use Rattle.ltx_forward.specs.Asked.{IsAsked, decision_of, IsWitnessed, IsWaitedFor}
use Rattle.ltx_forward.specs.Refusals.{IsRefusalAt, IsFoundRefusal, waits_by}
use Rattle.ltx_forward.specs.Witnesses.{seen, IsFoundLate, IsFoundContradicted}
use Rattle.ltx_forward.proofs.Overtaking.{one_target, overtaken_least, none_overtaken, IsLeastReader, reader_least, no_reader}

-- ---- a refusal

-- a first refusal has a witness
has_witness : (s : State) (i : LiveBatch) (p : ℕ) (r : Refusal) → IsFirstRefusal s i p r → HasWitness s i p
has_witness s i p (ByLate w) first = inl (w, first.late)
has_witness s i p (ByContradicts w) first = inr (w, first.1.contradicted)

-- the first late witness, or else the first contradicted one, or else none
pub refusal_late : (s : State) (i : LiveBatch) (p : ℕ) (d : Decision) (w : Witness) → decision_of d ≡ RefuseAt p (ByLate (seen w)) → IsFoundLate s i p (Some w) → IsFoundRefusal s i p (Some d)
refusal_late s i p d w is found = record { refusal = ByLate (seen w); is = is; first = found }

pub refusal_contradicts : (s : State) (i : LiveBatch) (p : ℕ) (d : Decision) (w : Witness) → decision_of d ≡ RefuseAt p (ByContradicts (seen w)) → IsFoundLate s i p None → IsFoundContradicted s i p (Some w) → IsFoundRefusal s i p (Some d)
refusal_contradicts s i p d w is none found = record { refusal = ByContradicts (seen w); is = is; first = (none, found) }

pub refusal_none : (s : State) (i : LiveBatch) (p : ℕ) → IsFoundLate s i p None → IsFoundContradicted s i p None → IsFoundRefusal s i p None
refusal_none s i p late contradicted (inl h) = late h.0 h.1
refusal_none s i p late contradicted (inr h) = contradicted h.0 h.1

-- of a refusal its target and its witness
refused_target : (p q : ℕ) (r t : Refusal) → ◌≡◌ {A = decisions.Decision} (RefuseAt q t) (RefuseAt p r) → q ≡ p
refused_target p q r t e = cc

refused_witness : (p q : ℕ) (r t : Refusal) → ◌≡◌ {A = decisions.Decision} (RefuseAt q t) (RefuseAt p r) → r ≡ t
refused_witness p q r t e = cc

module _ (s : State) (i : LiveBatch) (tx : Long) (writes : List Write) (lives : List Live) (records : Records) (agenda : Listed) (a : IsAsked s i tx writes lives records agenda) where
  -- ---- nobody is overtaken

  pub at_home : ((j : ℕ) → Overtakes s i j → ⊥) → IsDecision s i (CommitAt targets.Home)
  at_home none = none

  pub unwitnessed_home : ((j : ℕ) → Overtakes s i j → ⊥) → IsWitnessed s i None
  unwitnessed_home none p t w = none p t.overtaken

  pub unawaited_home : ((j : ℕ) → Overtakes s i j → ⊥) → IsWaitedFor s i None
  unawaited_home none k (inl w) = none w.place w.target.overtaken
  unawaited_home none k (inr w) = none w.place w.target.overtaken

  -- ---- at a target

  module _ (p : ℕ) (t : IsTarget s i p) where
    at_target : (q : ℕ) → IsTarget s i q → q ≡ p
    at_target q u = one_target s i tx writes lives records agenda a q p u t

    -- the first witness, as it is told
    refusal_told : (q : ℕ) (r : Refusal) (d : Decision) → decision_of d ≡ RefuseAt q r → IsRefusalAt s i p d → IsTarget s i q × IsFirstRefusal s i q r
    refusal_told q r d told h =
        let same : ◌≡◌ {A = decisions.Decision} (RefuseAt q r) (RefuseAt p h.refusal) = sym told ∙ h.is in
        let place : q ≡ p = refused_target p q h.refusal r same in
        (subst (IsTarget s i) (sym place) t, subst (λ k. IsFirstRefusal s i k r) (sym place) (subst (IsFirstRefusal s i p) (refused_witness p q h.refusal r same) h.first))

    pub witnessed : (found : Option Decision) → IsFoundRefusal s i p found → IsWitnessed s i found
    witnessed None none = λ q u w. none (subst (HasWitness s i) (at_target q u) w)
    witnessed (Some (given.Commit place)) h = let e = h.is in cc
    witnessed (Some (given.Waiting batch)) h = let e = h.is in cc
    witnessed (Some (given.Late place op table key writer)) h = refusal_told place (ByLate (record { op = op; cell = record { table = table; key = key }; other = writer })) (given.Late place op table key writer) refl h
    witnessed (Some (given.Contradicts place op table key reader)) h = refusal_told place (ByContradicts (record { op = op; cell = record { table = table; key = key }; other = reader })) (given.Contradicts place op table key reader) refl h

    -- whom it waits for
    awaited : (k : ℕ) (found : Option Decision) → IsFoundRefusal s i p found → waits_by s i p (is_some found) ≡ Some k → Waits s i k
    awaited k (Some d) h e =
        let least = overtaken_least s i tx writes lives records agenda a k e in
        inl (record { place = p; target = t; witness = has_witness s i p h.refusal h.first; overtaken = least.0; least = least.1 })
    awaited k None none e =
        let r : IsLeastReader s i tx writes lives records agenda a p k = reader_least s i tx writes lives records agenda a p k e in
        inr (record { place = p; target = t; unwitnessed = none; batch = r.batch; live = r.live; number = r.number; reads = r.reads; least = r.least })

    unawaited : (found : Option Decision) → IsFoundRefusal s i p found → waits_by s i p (is_some found) ≡ None → (k : ℕ) → Waits s i k → ⊥
    unawaited (Some d) h e k (inl w) = none_overtaken s i tx writes lives records agenda a e k w.overtaken
    unawaited (Some d) h e k (inr w) = w.unwitnessed (subst (HasWitness s i) (sym (at_target w.place w.target)) (has_witness s i p h.refusal h.first))
    unawaited None none e k (inl w) = none (subst (HasWitness s i) (at_target w.place w.target) w.witness)
    unawaited None none e k (inr w) = no_reader s i tx writes lives records agenda a p e w.batch w.live (subst (λ q. MayRead s i q w.batch) (at_target w.place w.target) w.reads)

    pub waited_for : (found : Option Decision) (batch : Option ℕ) → IsFoundRefusal s i p found → batch ≡ waits_by s i p (is_some found) → IsWaitedFor s i batch
    waited_for found None h e = unawaited found h (sym e)
    waited_for found (Some k) h e = awaited k found h (sym e)

    -- what is decided
    pub decided_wait : (found : Option Decision) (k : ℕ) → IsFoundRefusal s i p found → Some k ≡ waits_by s i p (is_some found) → IsDecision s i (WaitFor k)
    decided_wait found k h e = awaited k found h (sym e)

    pub decided_refusal : (d : Decision) → IsFoundRefusal s i p (Some d) → None ≡ waits_by s i p true → IsDecision s i (decision_of d)
    decided_refusal d h e = subst (IsDecision s i) (sym h.is) (record { target = t; witness = h.first; alone = none_overtaken s i tx writes lives records agenda a (sym e) })

    pub decided_forward : IsFoundRefusal s i p None → None ≡ waits_by s i p false → IsDecision s i (CommitAt (targets.Before p))
    decided_forward none e = record { target = t; unwitnessed = none; unread = no_reader s i tx writes lives records agenda a p (sym e) }
