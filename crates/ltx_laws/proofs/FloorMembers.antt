-- Who stands at or after the floor: nobody who stood before it, and all whom a live batch asks for at its commit.
use Rattle.std.proofs.Common.{◌≡◌, ◌⊎◌, inl, inr, ℕ, Bool, true, false, ◌||◌, List, [], ◌∷◌, ◌++◌, Option, Some, None, refl, sym, ap, ◌∙◌, subst, append_assoc, Contains}
use Rattle.std.proofs.lemmas.Bool.{both_ways, false_from_ne_true}
use Rattle.ltx_model.specs.declared.commands.Line.{Line}
use Rattle.ltx_model.specs.declared.replies.Entry.{Entry}
use Rattle.ltx_model.specs.Operations.{Transaction}
use Rattle.ltx_model.specs.Agenda.{Member, Committed, has_number, is_member, part_from, CommitShort}
use Rattle.ltx_model.specs.States.{Declaration, IsLive, Active, transaction_of, as_live, Base, IsSound, State, first_state, is_of, LiveBatch, live_batches}
use Rattle.ltx_model.specs.Histories.{closed, moved, after, state}
use Rattle.ltx_model.specs.Batches.{target, Overtakes, Witness, is_from, IsLate, IsContradicted, MayRead, floor, before_floor}
use Rattle.ltx_model.specs.Answers.{IsLegalWith}
use Rattle.ltx_model.proofs.OneMore.{legal-parts, state-push}
use Rattle.ltx_lemmas.specs.Places.{is_before, AreApart, is_at_or_after}
use Rattle.ltx_lemmas.proofs.Lists.{any_append, all_contains, contains_none, find_contains, given_here, given_item, without_contains}
use Rattle.ltx_lemmas.proofs.Members.{member_push_new, member_parts, before_member, before_asym, before_trans, before_when_not_from, from_when_not_before, from_not_before, from_cases}
use Rattle.ltx_lemmas.proofs.Serials.{serial_is_member}
use Rattle.ltx_laws.specs.Structure.{IsLiveBatch, StandsAs, Stands}
use Rattle.ltx_laws.specs.Commits.{IsCommitOf}
use Rattle.ltx_laws.specs.Floors.{CountsForFloor, IsFloor}
use Rattle.ltx_laws.specs.Orders.{IsPrefix}
use Rattle.ltx_laws.proofs.Agendas.{or_left, or_true}
use Rattle.ltx_laws.proofs.Structures.{structure_of}
use Rattle.ltx_laws.proofs.LiveStates.{IsOpenBatch, open_batch}
use Rattle.ltx_laws.proofs.NumberLists.{numbers_apart}
use Rattle.ltx_laws.proofs.Floors.{floor_over, targets_over}
use Rattle.ltx_laws.proofs.FloorWitnesses.{floor_earliest, before_floor_is, before_no_floor}
use Rattle.ltx_laws.proofs.CommitCases.{IsOneCommit, commit_of_entry}
use Rattle.ltx_laws.proofs.PlacesByCommit.{entry_is}

-- at or after one that is at or after another
from_trans : (ms : List Member) (n p f : ℕ) → AreApart ms → is_at_or_after ms p f ≡ true → is_at_or_after ms n p ≡ true → is_at_or_after ms n f ≡ true
from_trans ms n p f apart first second = by_second (from_cases ms n p apart second) where
  member : is_member ms n ≡ true
  member = member_parts ms n p ∙ ap (λ b. is_before ms n p || b) second ∙ or_true (is_before ms n p)

  behind : is_before ms f n ≡ true → is_at_or_after ms n f ≡ true
  behind ahead = from_when_not_before ms n f member (before_asym ms f n ahead)

  by_first : is_before ms p n ≡ true → (p ≡ f) ⊎ (is_before ms f p ≡ true) → is_at_or_after ms n f ≡ true
  by_first ahead (inl same) = behind (subst (λ k. is_before ms k n ≡ true) same ahead)
  by_first ahead (inr before) = behind (before_trans ms f p n before ahead)

  by_second : (n ≡ p) ⊎ (is_before ms p n ≡ true) → is_at_or_after ms n f ≡ true
  by_second (inl same) = subst (λ k. is_at_or_after ms k f ≡ true) (sym same) first
  by_second (inr ahead) = by_first ahead (from_cases ms p f apart first)

-- over longer histories
module _ (built : State → Line → Bool) (base : Base) (history more : List Entry) (sound : IsSound base) (legal : IsLegalWith built base (history ++ more)) where
  abbrev s : State
  s = state base history

  abbrev later : State
  later = state base (history ++ more)

  legal_now : IsLegalWith built base history
  legal_now = (legal-parts built (first_state base) history more legal).0

  apart_later : AreApart later.agenda
  apart_later = numbers_apart built base (history ++ more) sound legal

  pub settled_stay : (n f : ℕ) → is_member (before_floor s) n ≡ true → floor later ≡ Some f → is_from later f n ≡ false
  settled_stay n f here is =
      let first : IsPrefix (before_floor s) (before_floor later) = floor_over built base history more sound legal in
      let there : is_member (before_floor later) n ≡ true = ap (λ ms. is_member ms n) first.parts ∙ any_append (has_number n) (before_floor s) first.rest ∙ or_left (is_member (before_floor s) n) (is_member first.rest n) here in
      let before : is_before later.agenda n f ≡ true = ap (λ ms. is_member ms n) (sym (before_floor_is built base (history ++ more) sound legal f is)) ∙ there in
      false_from_ne_true (is_from later f n) (λ e. both_ways (is_before later.agenda n f) (from_not_before later.agenda n f apart_later e) before)

  pub kept_were_kept : (n f : ℕ) → floor later ≡ Some f → is_from later f n ≡ true → is_member s.agenda n ≡ true → (g : ℕ) × (floor s ≡ Some g) × (is_from s g n ≡ true)
  kept_were_kept n f is from here = by_floor (floor s) refl where
    clash : is_member (before_floor s) n ≡ true → ⊥
    clash before = both_ways (is_from later f n) (settled_stay n f before is) from

    by_floor : (o : Option ℕ) → floor s ≡ o → (g : ℕ) × (floor s ≡ Some g) × (is_from s g n ≡ true)
    by_floor None none = absurd (clash (ap (λ ms. is_member ms n) (before_no_floor built base history sound legal_now none) ∙ here))
    by_floor (Some g) at = (g, at, by_test (is_from s g n) refl) where
      by_test : (b : Bool) → is_from s g n ≡ b → is_from s g n ≡ true
      by_test true e = e
      by_test false e = absurd (clash (ap (λ ms. is_member ms n) (before_floor_is built base history sound legal_now g at) ∙ before_when_not_from s.agenda n g here e))

-- a commit while no batch is live
module _ (built : State → Line → Bool) (base : Base) (history more : List Entry) (entry : Entry) (sound : IsSound base) (legal : IsLegalWith built base (history ++ entry ∷ more)) (o : Active) (c : IsCommitOf (state base history) entry o) (alone : live_batches (state base history) ≡ []) where
  abbrev then : State
  then = state base history

  abbrev next : State
  next = state base (history ++ entry ∷ [])

  joined : (history ++ entry ∷ []) ++ more ≡ history ++ entry ∷ more
  joined = append_assoc history (entry ∷ []) more

  legal_joined : IsLegalWith built base ((history ++ entry ∷ []) ++ more)
  legal_joined = subst (IsLegalWith built base) (sym joined) legal

  legal_next : IsLegalWith built base (history ++ entry ∷ [])
  legal_next = (legal-parts built (first_state base) (history ++ entry ∷ []) more legal_joined).0

  no_live : (b : LiveBatch) → Contains (live_batches then) b → ⊥
  no_live b here = contains_none b (subst (λ l. Contains l b) alone here)

  o_not_live : (d : Declaration) (snapshot : List Transaction) → o.kind ≡ IsLive d snapshot → ⊥
  o_not_live d snapshot kind =
      let b : LiveBatch = record { tx = transaction_of o; declared = d; snapshot = snapshot } in
      no_live b (given_here (λ (u : Active). as_live u.kind (transaction_of u)) then.active o b (find_contains (is_of c.session) then.active o c.opened) (ap (λ k. as_live k (transaction_of o)) kind))

  next_is : next ≡ moved (closed then c.session) then.epoch (CommitShort (transaction_of o))
  next_is = state-push (first_state base) history entry ∙ by_case (commit_of_entry built then entry o (entry_is built base history more entry sound legal) c) where
    by_case : IsOneCommit then c.session o entry.reply (after then entry) → after then entry ≡ moved (closed then c.session) then.epoch (CommitShort (transaction_of o))
    by_case (inl h) = h.after_is
    by_case (inr (inl h)) = absurd (o_not_live h.declared h.snapshot h.kind)
    by_case (inr (inr h)) = absurd (o_not_live h.declared h.snapshot h.kind)

  no_floor : (f : ℕ) → floor next ≡ Some f → ⊥
  no_floor f is =
      let h : IsFloor next f = floor_earliest built base (history ++ entry ∷ []) sound legal_next f is in
      let b : LiveBatch = h.counts.0 in
      let at = given_item (λ (u : Active). as_live u.kind (transaction_of u)) next.active b h.counts.1 in
      let old : Contains then.active at.0 = without_contains (is_of c.session) then.active at.0 (subst (λ (x : State). Contains x.active at.0) next_is at.1) in
      no_live b (given_here (λ (u : Active). as_live u.kind (transaction_of u)) then.active at.0 b old at.2)

  pub settled_at_once : (f : ℕ) → floor (state base (history ++ entry ∷ more)) ≡ Some f → is_from (state base (history ++ entry ∷ more)) f o.number ≡ false
  settled_at_once f is =
      subst (λ l. is_from (state base l) f o.number ≡ false) joined
      (settled_stay built base (history ++ entry ∷ []) more sound legal_joined o.number f (by_floor (floor next) refl) (ap (λ l. floor (state base l)) joined ∙ is)) where
        member : is_member next.agenda o.number ≡ true
        member = ap (λ (x : State). is_member x.agenda o.number) next_is ∙ member_push_new then.agenda (Committed (transaction_of o))

        by_floor : (g : Option ℕ) → floor next ≡ g → is_member (before_floor next) o.number ≡ true
        by_floor None none = ap (λ ms. is_member ms o.number) (before_no_floor built base (history ++ entry ∷ []) sound legal_next none) ∙ member
        by_floor (Some g) at = absurd (no_floor g at)

-- whom a live batch asks for
module _ (built : State → Line → Bool) (base : Base) (history : List Entry) (sound : IsSound base) (legal : IsLegalWith built base history) (i : LiveBatch) (live : Contains (live_batches (state base history)) i) (f : ℕ) (is : floor (state base history) ≡ Some f) where
  abbrev here : State
  here = state base history

  earliest : IsFloor here f
  earliest = floor_earliest built base history sound legal f is

  member_from : (n : ℕ) → is_member here.agenda n ≡ true → CountsForFloor here n → is_from here f n ≡ true
  member_from n member counts = from_when_not_before here.agenda n f member (earliest.first n counts)

  pub overtaken_from : (j : ℕ) → Overtakes here i j → is_from here f j ≡ true
  overtaken_from j (inl h) = member_from j (before_member here.agenda j i.tx.number h.before) (i, live, inr h.later)
  overtaken_from j (inr h) =
      let o : IsOpenBatch here h.batch = open_batch here h.batch h.live in
      let stands : IsLiveBatch here.agenda here.moves o.active.number h.batch.declared h.batch.snapshot o.active.steps =
      subst (λ k. StandsAs here.agenda here.moves k o.active.number o.active.steps) o.kind (all_contains (Stands here.agenda here.moves) here.active o.active (structure_of built base history legal).stands o.here) in
      member_from j (subst (λ n. is_member here.agenda n ≡ true) (ap (λ (t : Transaction). t.number) o.tx ∙ h.number) stands.member) (h.batch, h.live, inl h.number)

  module _ (p : ℕ) (aim : target here i ≡ Some p) where
    from_target : (n : ℕ) → is_from here p n ≡ true → is_from here f n ≡ true
    from_target n from = from_trans here.agenda n p f (numbers_apart built base history sound legal) (targets_over built base history sound legal i live f p is aim) from

    pub late_from : (w : Witness) → IsLate here i p w → is_from here f w.other ≡ true
    late_from w h = from_target w.other h.after

    pub contradicted_from : (w : Witness) → IsContradicted here i p w → is_from here f w.other ≡ true
    contradicted_from w h = from_target w.other (subst (λ n. is_from here p n ≡ true) h.number (serial_is_member (part_from p here.agenda) h.reader h.after))

    pub reader_from : (k : LiveBatch) → MayRead here i p k → is_from here f k.tx.number ≡ true
    reader_from k h = from_target k.tx.number h.after
