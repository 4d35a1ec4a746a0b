-- Who stands before whom in the agenda, as the list of its numbers tells it.
use Rattle.std.proofs.Common.{◌≡◌, ◌⊎◌, inl, inr, ◌↔◌, IsTrue, ℕ, zero, suc, ◌<◌, Bool, true, false, cond, not, ◌||◌, ◌==◌, List, [], ◌∷◌, map, Some, refl, sym, ap, ◌∙◌, subst, arith, Contains}
use Rattle.std.proofs.lemmas.Bool.{eqb-true, eq-eqb, both_ways}
use Rattle.std.specs.List.{find}
use Rattle.ltx_model.specs.Agenda.{Member, LiveSlot, number_of, has_number, is_member, part_before}
use Rattle.ltx_model.specs.Listings as listings
use Rattle.ltx_model.specs.Listings.{place_of, numbers_of}
use Rattle.ltx_model.specs.States.{State, Active, LiveBatch, IsLive, live_batches, as_live, transaction_of}
use Rattle.ltx_model.specs.declared.writes.Write.{Write}
use Rattle.ltx_model.specs.Records.{Records, Recorded, IsRecordOf}
use Rattle.ltx_model.specs.Decisions as decisions
use Rattle.ltx_agenda.specs.Placed.{Listed}
use Rattle.ltx_long.specs.Longs.{Long}
use Rattle.ltx_forward.specs.declared.decide.Live.{Live}
use Rattle.ltx_model.specs.Decisions.{live_of}
use Rattle.ltx_model.specs.Explained.{IsDistinct}
use Rattle.ltx_lemmas.specs.Places.{is_before, is_at_or_after, AreApart}
use Rattle.ltx_lemmas.proofs.Lists.{true_false, any_map, any_contains, given_here, contains_cases, contains_later, contains_none, contains_here, map_here, map_item, all_contains}
use Rattle.ltx_lemmas.proofs.Serials.{serial_is_member}
use Rattle.ltx_lemmas.proofs.Members.{apart_tail, from_when_not_before, from_not_before}
use Rattle.ltx_forward.specs.Asked.{IsAsked, told}

-- ---- members

-- a number of the list is a member's
pub listed_member : (ms : List Member) (agenda : List ℕ) → agenda ≡ map number_of ms → (n : ℕ) → listings.is_member agenda n ≡ is_member ms n
listed_member ms agenda listed n = ap (λ ns. listings.is_member ns n) listed ∙ any_map (λ m. m == n) number_of ms

-- ---- before

placed_before : (ms : List Member) (n m : ℕ) → is_member ms m ≡ true → place_of (map number_of ms) n < place_of (map number_of ms) m → is_before ms n m ≡ true
placed_before [] n m here less = absurd (true_false (sym here))
placed_before (x ∷ xs) n m here less = by_tests (has_number n x) refl (has_number m x) refl here less (placed_before xs n m) where
  by_tests : (a : Bool) → has_number n x ≡ a → (b : Bool) → has_number m x ≡ b → (b || is_member xs m) ≡ true
      → cond a zero (suc (place_of (map number_of xs) n)) < cond b zero (suc (place_of (map number_of xs) m))
      → (is_member xs m ≡ true → place_of (map number_of xs) n < place_of (map number_of xs) m → is_before xs n m ≡ true)
      → is_member (cond b [] (x ∷ part_before m xs)) n ≡ true
  by_tests true is true stop h less later = absurd (omega (arith, less))
  by_tests false is true stop h less later = absurd (omega (arith, less))
  by_tests true is false stop h less later = ap (λ c. c || is_before xs n m) is
  by_tests false is false stop h less later = ap (λ c. c || is_before xs n m) is ∙ later h (omega (arith, less))

before_placed : (ms : List Member) (n m : ℕ) → is_before ms n m ≡ true → place_of (map number_of ms) n < place_of (map number_of ms) m
before_placed [] n m e = absurd (true_false (sym e))
before_placed (x ∷ xs) n m e = by_tests (has_number n x) refl (has_number m x) refl e (before_placed xs n m) where
  by_tests : (a : Bool) → has_number n x ≡ a → (b : Bool) → has_number m x ≡ b → is_member (cond b [] (x ∷ part_before m xs)) n ≡ true
      → (is_before xs n m ≡ true → place_of (map number_of xs) n < place_of (map number_of xs) m)
      → cond a zero (suc (place_of (map number_of xs) n)) < cond b zero (suc (place_of (map number_of xs) m))
  by_tests a is true stop h later = absurd (true_false (sym h))
  by_tests true is false stop h later = omega arith
  by_tests false is false stop h later = let less = later (sym (ap (λ c. c || is_before xs n m) is) ∙ h) in omega (arith, less)

-- a smaller place in the list is a place before
pub ahead_before : (ms : List Member) (agenda : List ℕ) → agenda ≡ map number_of ms → (n m : ℕ) → listings.is_member agenda m ≡ true → place_of agenda n < place_of agenda m → is_before ms n m ≡ true
ahead_before ms agenda listed n m here less = placed_before ms n m (sym (listed_member ms agenda listed m) ∙ here) (subst (λ ns. place_of ns n < place_of ns m) listed less)

pub before_ahead : (ms : List Member) (agenda : List ℕ) → agenda ≡ map number_of ms → (n m : ℕ) → is_before ms n m ≡ true → place_of agenda n < place_of agenda m
before_ahead ms agenda listed n m e = subst (λ ns. place_of ns n < place_of ns m) (sym listed) (before_placed ms n m e)

-- what the agenda tells of two members is whether the first one stands before the second one
pub before_told : (ms : List Member) (agenda : List ℕ) → agenda ≡ map number_of ms → (n m : ℕ) → listings.is_member agenda m ≡ true
    → (b : Bool) → (IsTrue b ↔ (place_of agenda n < place_of agenda m)) → b ≡ is_before ms n m
before_told ms agenda listed n m here b told = by_test b refl (is_before ms n m) refl where
  member : is_member ms m ≡ true
  member = sym (listed_member ms agenda listed m) ∙ here

  by_test : (r : Bool) → b ≡ r → (t : Bool) → is_before ms n m ≡ t → b ≡ is_before ms n m
  by_test true is true e = is ∙ sym e
  by_test false is false e = is ∙ sym e
  by_test true is false e =
      let less : place_of (map number_of ms) n < place_of (map number_of ms) m = subst (λ ns. place_of ns n < place_of ns m) listed (told.0 is) in
      absurd (both_ways (is_before ms n m) e (placed_before ms n m member less))
  by_test false is true e =
      let less : place_of agenda n < place_of agenda m = subst (λ ns. place_of ns n < place_of ns m) (sym listed) (before_placed ms n m e) in
      absurd (both_ways b is (told.1 less))

-- a member is p or stands after p exactly where it does not stand before p
pub from_told : (ms : List Member) (agenda : List ℕ) → agenda ≡ map number_of ms → IsDistinct agenda → (n p : ℕ) → listings.is_member agenda n ≡ true → is_at_or_after ms n p ≡ not (is_before ms n p)
from_told ms agenda listed distinct n p here = by_test (is_before ms n p) refl where
  member : is_member ms n ≡ true
  member = sym (listed_member ms agenda listed n) ∙ here

  by_test : (r : Bool) → is_before ms n p ≡ r → is_at_or_after ms n p ≡ not r
  by_test false is = from_when_not_before ms n p member is
  by_test true is = by_from (is_at_or_after ms n p) refl where
    by_from : (t : Bool) → is_at_or_after ms n p ≡ t → is_at_or_after ms n p ≡ false
    by_from false e = e
    by_from true e = absurd (both_ways (is_before ms n p) (from_not_before ms n p (subst IsDistinct listed distinct) e) is)

-- ---- the earliest one

-- where somebody passes and nobody who passes stands before it, the search finds it
pub earliest_found : (test : Member → Bool) (ms : List Member) → AreApart ms → (m : Member) → Contains ms m → test m ≡ true
    → ((x : Member) → Contains ms x → test x ≡ true → is_before ms (number_of x) (number_of m) ≡ false) → find test ms ≡ Some m
earliest_found test [] apart m here passes first = absurd (contains_none m here)
earliest_found test (y ∷ ys) apart m here passes first = by_test (test y) refl (earliest_found test ys) where
  tail : (is_member ys (number_of y) ≡ false) × AreApart ys
  tail = apart_tail y ys apart

  -- another member stands after the first one
  past : (x z : Member) → Contains ys x → Contains ys z → is_before (y ∷ ys) (number_of x) (number_of z) ≡ is_before ys (number_of x) (number_of z)
  past x z cx cz = by_own (has_number (number_of z) y) refl (has_number (number_of x) y) refl where
    clash : (w : Member) → Contains ys w → has_number (number_of w) y ≡ true → ⊥
    clash w c is = both_ways (is_member ys (number_of y)) tail.0 (any_contains (has_number (number_of y)) ys w c (eq-eqb (number_of w) (number_of y) (sym (eqb-true (number_of y) (number_of w) is))))

    by_own : (a : Bool) → has_number (number_of z) y ≡ a → (b : Bool) → has_number (number_of x) y ≡ b
        → is_member (cond a [] (y ∷ part_before (number_of z) ys)) (number_of x) ≡ is_before ys (number_of x) (number_of z)
    by_own true is b e = absurd (clash z cz is)
    by_own false is true e = absurd (clash x cx e)
    by_own false is false e = ap (λ c. c || is_before ys (number_of x) (number_of z)) e

  by_test : (b : Bool) → test y ≡ b
      → (AreApart ys → (z : Member) → Contains ys z → test z ≡ true → ((x : Member) → Contains ys x → test x ≡ true → is_before ys (number_of x) (number_of z) ≡ false) → find test ys ≡ Some z)
      → cond b (Some y) (find test ys) ≡ Some m
  by_test true is later = by_place (contains_cases y ys m here) where
    by_place : (y ≡ m) ⊎ Contains ys m → Some y ≡ Some m
    by_place (inl e) = ap Some e
    by_place (inr c) = absurd (both_ways (is_before (y ∷ ys) (number_of y) (number_of m)) (first y (contains_here y ys) is) (ahead (has_number (number_of m) y) refl)) where
      ahead : (a : Bool) → has_number (number_of m) y ≡ a → is_member (cond a [] (y ∷ part_before (number_of m) ys)) (number_of y) ≡ true
      ahead true e = absurd (both_ways (is_member ys (number_of y)) tail.0 (any_contains (has_number (number_of y)) ys m c (eq-eqb (number_of m) (number_of y) (sym (eqb-true (number_of y) (number_of m) e)))))
      ahead false e = ap (λ r. r || is_before ys (number_of y) (number_of m)) (eq-eqb (number_of y) (number_of y) refl)
  by_test false is later = by_place (contains_cases y ys m here) where
    by_place : (y ≡ m) ⊎ Contains ys m → find test ys ≡ Some m
    by_place (inl e) = absurd (both_ways (test y) is (ap test e ∙ passes))
    by_place (inr c) = later tail.1 m c passes (λ x cx px. sym (past x m cx c) ∙ first x (contains_later y ys x cx) px)

-- ---- what is asked with

-- a live batch's slot is a member
pub live_listed : (s : State) (agenda : List ℕ) → agenda ≡ numbers_of s → ((b : LiveBatch) → Contains (live_batches s) b → Contains s.agenda (LiveSlot b.tx.number))
    → (b : LiveBatch) → Contains (live_batches s) b → listings.is_member agenda b.tx.number ≡ true
live_listed s agenda listed slots b here =
    listed_member s.agenda agenda listed b.tx.number ∙ any_contains (has_number b.tx.number) s.agenda (LiveSlot b.tx.number) (slots b here) (eq-eqb b.tx.number b.tx.number refl)

-- the batch is one of the live ones
pub own_live : (s : State) (i : LiveBatch) (active : Active) → Contains s.active active → active.kind ≡ IsLive i.declared i.snapshot → transaction_of active ≡ i.tx → Contains (live_batches s) i
own_live s i active here kind tx = given_here (λ o. as_live o.kind (transaction_of o)) s.active active i here (ap (λ k. as_live k (transaction_of active)) kind ∙ ap (λ t. Some (record { tx = t; declared = i.declared; snapshot = i.snapshot })) tx)

-- the members of what is asked with: the batch itself, each live batch, and each transaction that is kept
module _ (s : State) (i : LiveBatch) (tx : Long) (writes : List Write) (lives : List Live) (records : Records) (agenda : Listed) (asked : IsAsked s i tx writes lives records agenda) where
  pub asked_own : listings.is_member agenda.list tx.tx ≡ true
  asked_own =
      let d = asked.decidable in
      ap (λ n. listings.is_member agenda.list n) asked.number ∙ live_listed s agenda.list d.listed d.slots i (own_live s i d.active d.open_in d.kind d.tx)

  pub asked_live : (live : Live) → Contains lives live → listings.is_member agenda.list live.tx ≡ true
  asked_live live here =
      let d = asked.decidable in
      let told_here : Contains (map live_of (live_batches s)) (told live) = subst (λ ls. Contains ls (told live)) d.live (map_here told lives live here) in
      let found = map_item live_of (live_batches s) (told live) told_here in
      ap (λ n. listings.is_member agenda.list n) (sym (ap (λ (l : decisions.Live). l.number) found.2)) ∙ live_listed s agenda.list d.listed d.slots found.0 found.1

  pub asked_kept : (r : Recorded) → Contains records.kept r → listings.is_member agenda.list r.number ≡ true
  asked_kept r here =
      let d = asked.decidable in
      let is = all_contains (IsRecordOf s) records.kept r d.recorded.told here in
      listed_member s.agenda agenda.list d.listed r.number ∙ ap (λ n. is_member s.agenda n) (sym is.number) ∙ serial_is_member s.agenda is.tx is.member
