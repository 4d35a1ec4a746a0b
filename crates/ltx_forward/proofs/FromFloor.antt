-- Whoever is at the target of a live batch or after it is from the floor on, since whom the batch overtakes counts for the floor.
use Rattle.std.proofs.Common.{◌≡◌, ◌⊎◌, inl, inr, ℕ, Bool, true, false, cond, List, [], ◌∷◌, refl, sym, ap, ◌∙◌, subst, Contains}
use Rattle.std.proofs.lemmas.Bool.{eqb-true, both_ways}
use Rattle.ltx_model.specs.declared.writes.Write.{Write}
use Rattle.ltx_model.specs.Lists.{from_first}
use Rattle.ltx_model.specs.Agenda.{Member, LiveSlot, Committed, number_of, has_number, is_member, part_from, commits_after}
use Rattle.ltx_model.specs.States.{State, LiveBatch, live_batches}
use Rattle.ltx_model.specs.Batches.{is_from, is_from_floor, counts_for_floor, Overtakes, IsTarget}
use Rattle.ltx_model.specs.Explained.{IsDistinct}
use Rattle.ltx_model.specs.Records.{Records}
use Rattle.ltx_agenda.specs.Placed.{Listed}
use Rattle.ltx_long.specs.Longs.{Long}
use Rattle.ltx_forward.specs.Asked.{IsAsked}
use Rattle.ltx_forward.proofs.Places.{own_live}
use Rattle.ltx_forward.specs.declared.decide.Live.{Live}
use Rattle.ltx_lemmas.specs.Places.{AreApart}
use Rattle.ltx_lemmas.proofs.Lists.{any_contains, any_item, from_contains, contains_here, contains_none, contains_cases}
use Rattle.ltx_lemmas.proofs.Members.{apart_tail, apart_one}
use Rattle.ltx_lemmas.proofs.Serials.{serial_member}

-- those from a member on, where it passes a test, are among those from the first one on that does
from_wider : (test : Member → Bool) (ms : List Member) (m : Member) (n : ℕ) → AreApart ms → Contains ms m → test m ≡ true → is_member (part_from (number_of m) ms) n ≡ true → is_member (from_first test ms) n ≡ true
from_wider test [] m n apart here passes e = absurd (contains_none m here)
from_wider test (x ∷ xs) m n apart here passes e = by_test (test x) refl (from_wider test xs m n) where
  whole : is_member (x ∷ xs) n ≡ true
  whole = let found = any_item (has_number n) (part_from (number_of m) (x ∷ xs)) e in any_contains (has_number n) (x ∷ xs) found.0 (from_contains (has_number (number_of m)) (x ∷ xs) found.0 found.1) found.2

  other : test x ≡ false → x ≡ m → ⊥
  other fails same = both_ways (test m) (sym (ap test same) ∙ fails) passes

  later : test x ≡ false → (x ≡ m) ⊎ Contains xs m → (AreApart xs → Contains xs m → test m ≡ true → is_member (part_from (number_of m) xs) n ≡ true → is_member (from_first test xs) n ≡ true) → is_member (from_first test xs) n ≡ true
  later fails (inl same) rest = absurd (other fails same)
  later fails (inr there) rest = by_number (has_number (number_of m) x) refl e where
    by_number : (b : Bool) → has_number (number_of m) x ≡ b → is_member (cond b (x ∷ xs) (part_from (number_of m) xs)) n ≡ true → is_member (from_first test xs) n ≡ true
    by_number true is h = absurd (other fails (apart_one (x ∷ xs) x m apart (contains_here x xs) here (eqb-true (number_of x) (number_of m) is)))
    by_number false is h = rest (apart_tail x xs apart).1 there passes h

  by_test : (b : Bool) → test x ≡ b → (AreApart xs → Contains xs m → test m ≡ true → is_member (part_from (number_of m) xs) n ≡ true → is_member (from_first test xs) n ≡ true) → is_member (cond b (x ∷ xs) (from_first test xs)) n ≡ true
  by_test true is rest = whole
  by_test false is rest = later is (contains_cases x xs m here) rest

module _ (s : State) (i : LiveBatch) (live : Contains (live_batches s) i) (slots : (b : LiveBatch) → Contains (live_batches s) b → Contains s.agenda (LiveSlot b.tx.number)) (apart : AreApart s.agenda) where
  -- an overtaken member counts for the floor
  counts : (p : ℕ) → Overtakes s i p → (m : Member) × Contains s.agenda m × (number_of m ≡ p) × (counts_for_floor s m ≡ true)
  counts p (inl o) =
      (Committed o.tx, serial_member s.agenda o.tx o.member, o.number, any_contains (λ (b : LiveBatch). commits_after s.moves b.tx.number o.tx.number) (live_batches s) i live (ap (commits_after s.moves i.tx.number) o.number ∙ o.later))
  counts p (inr o) = (LiveSlot o.batch.tx.number, slots o.batch o.live, o.number, refl)

  pub from_overtaken : (p n : ℕ) → Overtakes s i p → is_from s p n ≡ true → is_from_floor s n ≡ true
  from_overtaken p n o e =
      let (m, here, number, counted) = counts p o in
      from_wider (counts_for_floor s) s.agenda m n apart here counted (subst (λ k. is_from s k n ≡ true) (sym number) e)

module _ (s : State) (i : LiveBatch) (tx : Long) (writes : List Write) (lives : List Live) (records : Records) (agenda : Listed) (a : IsAsked s i tx writes lives records agenda) where
  -- the live batch that a decision is about is one of the live batches
  pub asked_live : Contains (live_batches s) i
  asked_live = own_live s i a.decidable.active a.decidable.open_in a.decidable.kind a.decidable.tx

  -- no two members have one number
  pub asked_apart : AreApart s.agenda
  asked_apart = subst IsDistinct a.decidable.listed a.decidable.distinct

  -- the target, or one that stands after it, is from the floor on
  pub from_target : (p n : ℕ) → IsTarget s i p → is_from s p n ≡ true → is_from_floor s n ≡ true
  from_target p n t e = from_overtaken s i asked_live a.decidable.slots asked_apart p n t.overtaken e
