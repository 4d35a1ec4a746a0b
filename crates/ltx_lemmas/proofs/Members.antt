-- The agenda's lists: who is a member, and who stands before whom, after one more, one less, one put before another, and one committed at its slot.
use Rattle.std.proofs.Common.{◌≡◌, ◌≢◌, ◌⊎◌, inl, inr, ℕ, Bool, true, false, cond, not, ◌||◌, ◌==◌, List, [], ◌∷◌, ◌++◌, map, refl, sym, ap, ◌∙◌, subst}
use Rattle.std.proofs.lemmas.Bool.{eqb-true, eq-eqb, ne_eqb, both_ways, or_right, or_parts}
use Rattle.std.specs.List.{Contains}
use Rattle.ltx_model.specs.Operations.{Transaction}
use Rattle.ltx_model.specs.Agenda.{Member, Committed, number_of, has_number, is_member, without_member, insert_before, commit_at_slot, part_before, part_from}
use Rattle.ltx_model.specs.Explained.{IsDistinct}
use Rattle.ltx_lemmas.specs.Places.{is_before, is_at_or_after, AreApart}
use Rattle.ltx_lemmas.proofs.Lists.{true_false, any_append, any_map, any_contains, any_item, before_fails, any_none_all, parts_join, before_within, before_past, before_contains, from_contains, any_not_all, contains_none, contains_here, contains_later, contains_cases}

pub same_number : (n : ℕ) → (n == n) ≡ true
same_number n = eq-eqb n n refl

-- a number is another's or not
pub is_one : (a b : ℕ) → (a ≡ b) ⊎ (a ≢ b)
is_one a b = by_test (a == b) refl where
  by_test : (r : Bool) → (a == b) ≡ r → (a ≡ b) ⊎ (a ≢ b)
  by_test true e = inl (eqb-true a b e)
  by_test false e = inr (λ same. let no : ⊥ = both_ways (a == b) e (eq-eqb a b same) in no)

or_false : (b : Bool) → (b || false) ≡ b
or_false true = refl
or_false false = refl

-- one more at the end
pub member_push : (ms : List Member) (x : Member) (n : ℕ) → is_member (ms ++ x ∷ []) n ≡ (is_member ms n || (number_of x == n))
member_push ms x n = any_append (has_number n) ms (x ∷ []) ∙ ap (λ b. is_member ms n || b) (or_false (number_of x == n))

pub member_push_old : (ms : List Member) (x : Member) (n : ℕ) → is_member ms n ≡ true → is_member (ms ++ x ∷ []) n ≡ true
member_push_old ms x n e = member_push ms x n ∙ ap (λ b. b || (number_of x == n)) e

pub member_push_new : (ms : List Member) (x : Member) → is_member (ms ++ x ∷ []) (number_of x) ≡ true
member_push_new ms x = member_push ms x (number_of x) ∙ or_right (is_member ms (number_of x)) (number_of x == number_of x) (same_number (number_of x))

pub member_push_other : (ms : List Member) (x : Member) (n : ℕ) → number_of x ≢ n → is_member (ms ++ x ∷ []) n ≡ is_member ms n
member_push_other ms x n other = member_push ms x n ∙ ap (λ b. is_member ms n || b) (ne_eqb (number_of x) n other) ∙ or_false (is_member ms n)

pub before_push_old : (ms : List Member) (x : Member) (a b : ℕ) → is_member ms b ≡ true → is_before (ms ++ x ∷ []) a b ≡ is_before ms a b
before_push_old ms x a b e = ap (λ l. is_member l a) (before_within (has_number b) ms (x ∷ []) e)

-- the new one stands after all others
pub before_push_new : (ms : List Member) (x : Member) (a : ℕ) → is_member ms (number_of x) ≡ false → is_before (ms ++ x ∷ []) a (number_of x) ≡ is_member ms a
before_push_new ms x a new =
    let fails = any_not_all (has_number (number_of x)) ms new in
    let own : part_before (number_of x) (x ∷ []) ≡ [] = ap (λ b. cond b [] (x ∷ [])) (same_number (number_of x)) in
    ap (λ l. is_member l a) (before_past (has_number (number_of x)) ms (x ∷ []) fails) ∙ ap (λ l. is_member (ms ++ l) a) own ∙ any_append (has_number a) ms [] ∙ or_false (is_member ms a)

-- one less
pub member_without_same : (ms : List Member) (n : ℕ) → is_member (without_member ms n) n ≡ false
member_without_same [] n = refl
member_without_same (m ∷ ms) n = by_test (has_number n m) refl (member_without_same ms n) where
  by_test : (b : Bool) → has_number n m ≡ b → is_member (without_member ms n) n ≡ false → is_member (cond (not b) (m ∷ without_member ms n) (without_member ms n)) n ≡ false
  by_test true e rest = rest
  by_test false e rest = ap (λ b. b || is_member (without_member ms n) n) e ∙ rest

pub member_without_other : (ms : List Member) (n a : ℕ) → a ≢ n → is_member (without_member ms n) a ≡ is_member ms a
member_without_other [] n a other = refl
member_without_other (m ∷ ms) n a other = by_test (has_number n m) refl (member_without_other ms n a other) where
  by_test : (b : Bool) → has_number n m ≡ b → is_member (without_member ms n) a ≡ is_member ms a → is_member (cond (not b) (m ∷ without_member ms n) (without_member ms n)) a ≡ (has_number a m || is_member ms a)
  by_test true e rest = rest ∙ sym (ap (λ b. b || is_member ms a) (ne_eqb (number_of m) a (λ same. other (sym same ∙ eqb-true (number_of m) n e))))
  by_test false e rest = ap (λ b. has_number a m || b) rest

pub before_without : (ms : List Member) (n a b : ℕ) → a ≢ n → b ≢ n → is_before (without_member ms n) a b ≡ is_before ms a b
before_without [] n a b other over = refl
before_without (m ∷ ms) n a b other over = by_test (has_number n m) (has_number b m) refl refl (before_without ms n a b other over) where
  by_test : (r t : Bool) → has_number n m ≡ r → has_number b m ≡ t → is_before (without_member ms n) a b ≡ is_before ms a b
      → is_before (cond (not r) (m ∷ without_member ms n) (without_member ms n)) a b ≡ is_member (cond t [] (m ∷ part_before b ms)) a
  by_test true true e f rest = absurd (over (sym (eqb-true (number_of m) b f) ∙ eqb-true (number_of m) n e))
  by_test true false e f rest = rest ∙ sym (ap (λ r. r || is_before ms a b) (ne_eqb (number_of m) a (λ same. other (sym same ∙ eqb-true (number_of m) n e))))
  by_test false true e f rest = ap (λ t. is_member (cond t [] (m ∷ part_before b (without_member ms n))) a) f
  by_test false false e f rest = ap (λ t. is_member (cond t [] (m ∷ part_before b (without_member ms n))) a) f ∙ ap (λ r. has_number a m || r) rest

-- one put before another
pub member_insert_other : (x : Member) (p : ℕ) (ms : List Member) (a : ℕ) → number_of x ≢ a → is_member (insert_before x p ms) a ≡ is_member ms a
member_insert_other x p [] a other = refl
member_insert_other x p (m ∷ ms) a other = by_test (has_number p m) (member_insert_other x p ms a other) where
  by_test : (b : Bool) → is_member (insert_before x p ms) a ≡ is_member ms a → is_member (cond b (x ∷ m ∷ ms) (m ∷ insert_before x p ms)) a ≡ (has_number a m || is_member ms a)
  by_test true rest = ap (λ b. b || (has_number a m || is_member ms a)) (ne_eqb (number_of x) a other)
  by_test false rest = ap (λ b. has_number a m || b) rest

pub member_insert_new : (x : Member) (p : ℕ) (ms : List Member) → is_member ms p ≡ true → is_member (insert_before x p ms) (number_of x) ≡ true
member_insert_new x p [] e = e
member_insert_new x p (m ∷ ms) e = by_test (has_number p m) e (member_insert_new x p ms) where
  by_test : (b : Bool) → (b || is_member ms p) ≡ true → (is_member ms p ≡ true → is_member (insert_before x p ms) (number_of x) ≡ true) → is_member (cond b (x ∷ m ∷ ms) (m ∷ insert_before x p ms)) (number_of x) ≡ true
  by_test true h later = ap (λ b. b || (has_number (number_of x) m || is_member ms (number_of x))) (same_number (number_of x))
  by_test false h later = or_right (has_number (number_of x) m) (is_member (insert_before x p ms) (number_of x)) (later h)

pub before_insert_others : (x : Member) (p : ℕ) (ms : List Member) (a b : ℕ) → number_of x ≢ a → number_of x ≢ b → is_before (insert_before x p ms) a b ≡ is_before ms a b
before_insert_others x p [] a b other over = refl
before_insert_others x p (m ∷ ms) a b other over = by_test (has_number p m) (before_insert_others x p ms a b other over) where
  by_test : (r : Bool) → is_before (insert_before x p ms) a b ≡ is_before ms a b → is_before (cond r (x ∷ m ∷ ms) (m ∷ insert_before x p ms)) a b ≡ is_before (m ∷ ms) a b
  by_test true rest = ap (λ t. is_member (cond t [] (x ∷ part_before b (m ∷ ms))) a) (ne_eqb (number_of x) b over) ∙ ap (λ t. t || is_before (m ∷ ms) a b) (ne_eqb (number_of x) a other)
  by_test false rest = by_stop (has_number b m) where
    by_stop : (t : Bool) → is_member (cond t [] (m ∷ part_before b (insert_before x p ms))) a ≡ is_member (cond t [] (m ∷ part_before b ms)) a
    by_stop true = refl
    by_stop false = ap (λ t. has_number a m || t) rest

-- before the new one stand those that stand before its target
pub before_insert_right : (x : Member) (p : ℕ) (ms : List Member) (a : ℕ) → is_member ms (number_of x) ≡ false → is_member ms p ≡ true → is_before (insert_before x p ms) a (number_of x) ≡ is_before ms a p
before_insert_right x p [] a new e = absurd (let no : ⊥ = true_false (sym e) in no)
before_insert_right x p (m ∷ ms) a new e = by_test (has_number p m) e new (before_insert_right x p ms a) where
  by_test : (r : Bool) → (r || is_member ms p) ≡ true → (has_number (number_of x) m || is_member ms (number_of x)) ≡ false
      → (is_member ms (number_of x) ≡ false → is_member ms p ≡ true → is_before (insert_before x p ms) a (number_of x) ≡ is_before ms a p)
      → is_before (cond r (x ∷ m ∷ ms) (m ∷ insert_before x p ms)) a (number_of x) ≡ is_member (cond r [] (m ∷ part_before p ms)) a
  by_test true h new later = ap (λ t. is_member (cond t [] (x ∷ part_before (number_of x) (m ∷ ms))) a) (same_number (number_of x))
  by_test false h new later = by_own (has_number (number_of x) m) new where
    by_own : (t : Bool) → (t || is_member ms (number_of x)) ≡ false → is_member (cond t [] (m ∷ part_before (number_of x) (insert_before x p ms))) a ≡ (has_number a m || is_before ms a p)
    by_own true n = absurd (true_false n)
    by_own false n = ap (λ r. has_number a m || r) (later n h)

-- the new one stands before its target, and before what its target stands before
pub before_insert_left : (x : Member) (p : ℕ) (ms : List Member) (b : ℕ) → is_member ms p ≡ true → number_of x ≢ b → is_member ms (number_of x) ≡ false
    → is_before (insert_before x p ms) (number_of x) b ≡ ((p == b) || is_before ms p b)
before_insert_left x p [] b e over new = absurd (true_false (sym e))
before_insert_left x p (m ∷ ms) b e over new = by_test (has_number p m) refl e (λ h. before_insert_left x p ms b h over) where
  n : ℕ
  n = number_of x

  first : (t : Bool) → has_number p m ≡ true → has_number b m ≡ t → ((p == b) || is_member (cond t [] (m ∷ part_before b ms)) p) ≡ true
  first true is stop = ap (λ r. r || false) (eq-eqb p b (sym (eqb-true (number_of m) p is) ∙ eqb-true (number_of m) b stop))
  first false is stop = or_right (p == b) (has_number p m || is_before ms p b) (ap (λ r. r || is_before ms p b) is)

  by_stop : (t : Bool) → has_number b m ≡ t → has_number p m ≡ false → (has_number n m ≡ false) × (is_before (insert_before x p ms) n b ≡ ((p == b) || is_before ms p b))
      → is_member (cond t [] (m ∷ part_before b (insert_before x p ms))) n ≡ ((p == b) || is_member (cond t [] (m ∷ part_before b ms)) p)
  by_stop true stop is rest = sym (or_false (p == b) ∙ ne_eqb p b (λ same. let no : ⊥ = both_ways (has_number p m) is (eq-eqb (number_of m) p (eqb-true (number_of m) b stop ∙ sym same)) in no))
  by_stop false stop is rest =
      ap (λ r. r || is_before (insert_before x p ms) n b) rest.0 ∙ rest.1 ∙ sym (ap (λ r. (p == b) || (r || is_before ms p b)) is)

  by_test : (r : Bool) → has_number p m ≡ r → (r || is_member ms p) ≡ true → (is_member ms p ≡ true → is_member ms n ≡ false → is_before (insert_before x p ms) n b ≡ ((p == b) || is_before ms p b))
      → is_before (cond r (x ∷ m ∷ ms) (m ∷ insert_before x p ms)) n b ≡ ((p == b) || is_before (m ∷ ms) p b)
  by_test true is h later =
      ap (λ t. is_member (cond t [] (x ∷ part_before b (m ∷ ms))) n) (ne_eqb n b over) ∙ ap (λ t. t || is_before (m ∷ ms) n b) (same_number n) ∙ sym (first (has_number b m) is refl)
  by_test false is h later = let others = or_parts (has_number n m) (is_member ms n) new in by_stop (has_number b m) refl is (others.0, later h others.1)

-- one committed at its slot
pub home_numbers : (t : Transaction) (ms : List Member) → map number_of (map (commit_at_slot t) ms) ≡ map number_of ms
home_numbers t [] = refl
home_numbers t (m ∷ ms) = by_test (has_number t.number m) refl (home_numbers t ms) where
  by_test : (b : Bool) → has_number t.number m ≡ b → map number_of (map (commit_at_slot t) ms) ≡ map number_of ms → number_of (cond b (Committed t) m) ∷ map number_of (map (commit_at_slot t) ms) ≡ number_of m ∷ map number_of ms
  by_test true e rest = λ i. (sym (eqb-true (number_of m) t.number e)) i ∷ rest i
  by_test false e rest = ap (λ l. number_of m ∷ l) rest

pub home_number : (t : Transaction) (m : Member) → number_of (commit_at_slot t m) ≡ number_of m
home_number t m = by_test (has_number t.number m) refl where
  by_test : (b : Bool) → has_number t.number m ≡ b → number_of (cond b (Committed t) m) ≡ number_of m
  by_test true e = sym (eqb-true (number_of m) t.number e)
  by_test false e = refl

pub member_home : (t : Transaction) (ms : List Member) (a : ℕ) → is_member (map (commit_at_slot t) ms) a ≡ is_member ms a
member_home t [] a = refl
member_home t (m ∷ ms) a = ap (λ n. (n == a) || is_member (map (commit_at_slot t) ms) a) (home_number t m) ∙ ap (λ b. has_number a m || b) (member_home t ms a)

pub before_home_part : (t : Transaction) (ms : List Member) (b : ℕ) → part_before b (map (commit_at_slot t) ms) ≡ map (commit_at_slot t) (part_before b ms)
before_home_part t [] b = refl
before_home_part t (m ∷ ms) b =
    ap (λ n. cond (n == b) [] (commit_at_slot t m ∷ part_before b (map (commit_at_slot t) ms))) (home_number t m) ∙ by_test (has_number b m) (before_home_part t ms b) where
      by_test : (r : Bool) → part_before b (map (commit_at_slot t) ms) ≡ map (commit_at_slot t) (part_before b ms)
          → cond r [] (commit_at_slot t m ∷ part_before b (map (commit_at_slot t) ms)) ≡ map (commit_at_slot t) (cond r [] (m ∷ part_before b ms))
      by_test true e = refl
      by_test false e = ap (λ l. commit_at_slot t m ∷ l) e

pub before_home : (t : Transaction) (ms : List Member) (a b : ℕ) → is_before (map (commit_at_slot t) ms) a b ≡ is_before ms a b
before_home t ms a b = ap (λ l. is_member l a) (before_home_part t ms b) ∙ member_home t (part_before b ms) a

-- the relation itself
pub before_self : (ms : List Member) (a : ℕ) → is_before ms a a ≡ false
before_self ms a = any_none_all (has_number a) (part_before a ms) (before_fails (has_number a) ms)

pub before_member : (ms : List Member) (a b : ℕ) → is_before ms a b ≡ true → is_member ms a ≡ true
before_member ms a b e = let found = any_item (has_number a) (part_before b ms) e in any_contains (has_number a) ms found.0 (before_contains (has_number b) ms found.0 found.1) found.2

pub before_total : (ms : List Member) (a b : ℕ) → is_member ms a ≡ true → a ≢ b → is_before ms a b ≡ false → is_before ms b a ≡ true
before_total [] a b here other e = absurd (true_false (sym here))
before_total (m ∷ ms) a b here other e = by_tests (has_number a m) refl (has_number b m) refl here e (λ h. before_total ms a b h other) where
  by_tests : (r : Bool) → has_number a m ≡ r → (t : Bool) → has_number b m ≡ t → (r || is_member ms a) ≡ true → is_member (cond t [] (m ∷ part_before b ms)) a ≡ false
      → (is_member ms a ≡ true → is_before ms a b ≡ false → is_before ms b a ≡ true) → is_member (cond r [] (m ∷ part_before a ms)) b ≡ true
  by_tests true is true stop h e later = absurd (other (sym (eqb-true (number_of m) a is) ∙ eqb-true (number_of m) b stop))
  by_tests true is false stop h e later = absurd (let no : ⊥ = true_false (sym (ap (λ c. c || is_before ms a b) is) ∙ e) in no)
  by_tests false is true stop h e later = ap (λ c. c || is_before ms b a) stop
  by_tests false is false stop h e later = or_right (has_number b m) (is_before ms b a) (later h (sym (ap (λ c. c || is_before ms a b) is) ∙ e))

pub before_asym : (ms : List Member) (a b : ℕ) → is_before ms a b ≡ true → is_before ms b a ≡ false
before_asym [] a b e = refl
before_asym (m ∷ ms) a b e = by_tests (has_number a m) refl (has_number b m) refl e (before_asym ms a b) where
  by_tests : (r : Bool) → has_number a m ≡ r → (t : Bool) → has_number b m ≡ t → is_member (cond t [] (m ∷ part_before b ms)) a ≡ true
      → (is_before ms a b ≡ true → is_before ms b a ≡ false) → is_member (cond r [] (m ∷ part_before a ms)) b ≡ false
  by_tests r is true stop e later = absurd (true_false (sym e))
  by_tests true is false stop e later = refl
  by_tests false is false stop e later = ap (λ c. c || is_before ms b a) stop ∙ later (sym (ap (λ c. c || is_before ms a b) is) ∙ e)

pub before_trans : (ms : List Member) (a b c : ℕ) → is_before ms a b ≡ true → is_before ms b c ≡ true → is_before ms a c ≡ true
before_trans [] a b c e f = absurd (true_false (sym e))
before_trans (m ∷ ms) a b c e f = by_tests (has_number a m) refl (has_number b m) refl (has_number c m) e f (before_trans ms a b c) where
  by_tests : (r : Bool) → has_number a m ≡ r → (t : Bool) → has_number b m ≡ t → (u : Bool) → is_member (cond t [] (m ∷ part_before b ms)) a ≡ true → is_member (cond u [] (m ∷ part_before c ms)) b ≡ true
      → (is_before ms a b ≡ true → is_before ms b c ≡ true → is_before ms a c ≡ true) → is_member (cond u [] (m ∷ part_before c ms)) a ≡ true
  by_tests r is true stop u e f later = absurd (true_false (sym e))
  by_tests r is false stop true e f later = absurd (true_false (sym f))
  by_tests true is false stop false e f later = ap (λ z. z || is_before ms a c) is
  by_tests false is false stop false e f later =
      or_right (has_number a m) (is_before ms a c) (later (sym (ap (λ z. z || is_before ms a b) is) ∙ e) (sym (ap (λ z. z || is_before ms b c) stop) ∙ f))

-- at or after a member
pub member_parts : (ms : List Member) (a p : ℕ) → is_member ms a ≡ (is_before ms a p || is_at_or_after ms a p)
member_parts ms a p = sym (ap (λ l. is_member l a) (parts_join (has_number p) ms)) ∙ any_append (has_number a) (part_before p ms) (part_from p ms)

pub from_when_not_before : (ms : List Member) (a p : ℕ) → is_member ms a ≡ true → is_before ms a p ≡ false → is_at_or_after ms a p ≡ true
from_when_not_before ms a p here not = sym (ap (λ b. b || is_at_or_after ms a p) not) ∙ sym (member_parts ms a p) ∙ here

pub from_itself : (ms : List Member) (p : ℕ) → is_member ms p ≡ true → is_at_or_after ms p p ≡ true
from_itself ms p here = from_when_not_before ms p p here (before_self ms p)

pub before_when_not_from : (ms : List Member) (a p : ℕ) → is_member ms a ≡ true → is_at_or_after ms a p ≡ false → is_before ms a p ≡ true
before_when_not_from ms a p here not = sym (or_false (is_before ms a p)) ∙ sym (ap (λ b. is_before ms a p || b) not) ∙ sym (member_parts ms a p) ∙ here

pub from_target_member : (ms : List Member) (a p : ℕ) → is_at_or_after ms a p ≡ true → is_member ms p ≡ true
from_target_member [] a p e = absurd (true_false (sym e))
from_target_member (m ∷ ms) a p e = by_test (has_number p m) e (from_target_member ms a p) where
  by_test : (r : Bool) → is_member (cond r (m ∷ ms) (part_from p ms)) a ≡ true → (is_at_or_after ms a p ≡ true → is_member ms p ≡ true) → (r || is_member ms p) ≡ true
  by_test true e later = refl
  by_test false e later = later e

-- where no two have one number
pub apart_tail : (m : Member) (ms : List Member) → AreApart (m ∷ ms) → (is_member ms (number_of m) ≡ false) × AreApart ms
apart_tail m ms apart = (sym (any_map (λ y. y == number_of m) number_of ms) ∙ apart.0, apart.1)

pub apart_from : (m : Member) (ms : List Member) → is_member ms (number_of m) ≡ false → AreApart ms → AreApart (m ∷ ms)
apart_from m ms new apart = (any_map (λ y. y == number_of m) number_of ms ∙ new, apart)

pub apart_push : (ms : List Member) (x : Member) → AreApart ms → is_member ms (number_of x) ≡ false → AreApart (ms ++ x ∷ [])
apart_push [] x apart new = (refl, tt)
apart_push (m ∷ ms) x apart new =
    let tail = apart_tail m ms apart in
    let others = or_parts (has_number (number_of x) m) (is_member ms (number_of x)) new in
    let other : number_of x ≢ number_of m = λ same. let no : ⊥ = both_ways (has_number (number_of x) m) others.0 (eq-eqb (number_of m) (number_of x) (sym same)) in no in
    apart_from m (ms ++ x ∷ []) (member_push_other ms x (number_of m) other ∙ tail.0) (apart_push ms x tail.1 others.1)

pub apart_without : (ms : List Member) (n : ℕ) → AreApart ms → AreApart (without_member ms n)
apart_without [] n apart = tt
apart_without (m ∷ ms) n apart = by_test (has_number n m) refl (apart_tail m ms apart) (apart_without ms n) where
  by_test : (b : Bool) → has_number n m ≡ b → (is_member ms (number_of m) ≡ false) × AreApart ms → (AreApart ms → AreApart (without_member ms n)) → AreApart (cond (not b) (m ∷ without_member ms n) (without_member ms n))
  by_test true is tail later = later tail.1
  by_test false is tail later =
      apart_from m (without_member ms n) (member_without_other ms n (number_of m) (λ same. let no : ⊥ = both_ways (has_number n m) is (eq-eqb (number_of m) n same) in no) ∙ tail.0) (later tail.1)

pub apart_insert : (x : Member) (p : ℕ) (ms : List Member) → AreApart ms → is_member ms (number_of x) ≡ false → AreApart (insert_before x p ms)
apart_insert x p [] apart new = tt
apart_insert x p (m ∷ ms) apart new = by_test (has_number p m) (apart_tail m ms apart) (or_parts (has_number (number_of x) m) (is_member ms (number_of x)) new) (apart_insert x p ms) where
  by_test : (b : Bool) → (is_member ms (number_of m) ≡ false) × AreApart ms → (has_number (number_of x) m ≡ false) × (is_member ms (number_of x) ≡ false) → (AreApart ms → is_member ms (number_of x) ≡ false → AreApart (insert_before x p ms))
      → AreApart (cond b (x ∷ m ∷ ms) (m ∷ insert_before x p ms))
  by_test true tail others later = apart_from x (m ∷ ms) new apart
  by_test false tail others later =
      apart_from m (insert_before x p ms) (member_insert_other x p ms (number_of m) (λ same. let no : ⊥ = both_ways (has_number (number_of x) m) others.0 (eq-eqb (number_of m) (number_of x) (sym same)) in no) ∙ tail.0) (later tail.1 others.1)

pub apart_home : (t : Transaction) (ms : List Member) → AreApart ms → AreApart (map (commit_at_slot t) ms)
apart_home t ms apart = subst IsDistinct (sym (home_numbers t ms)) apart

-- one of two members with one number is the other
pub apart_one : (ms : List Member) (x y : Member) → AreApart ms → Contains ms x → Contains ms y → number_of x ≡ number_of y → x ≡ y
apart_one [] x y apart cx cy same = absurd (contains_none x cx)
apart_one (m ∷ ms) x y apart cx cy same = by_places (contains_cases m ms x cx) (contains_cases m ms y cy) (apart_tail m ms apart) (apart_one ms x y) where
  clash : (z : Member) → Contains ms z → number_of z ≡ number_of m → is_member ms (number_of m) ≡ false → ⊥
  clash z c e new = both_ways (is_member ms (number_of m)) new (any_contains (has_number (number_of m)) ms z c (eq-eqb (number_of z) (number_of m) e))

  by_places : (m ≡ x) ⊎ Contains ms x → (m ≡ y) ⊎ Contains ms y → (is_member ms (number_of m) ≡ false) × AreApart ms
      → (AreApart ms → Contains ms x → Contains ms y → number_of x ≡ number_of y → x ≡ y) → x ≡ y
  by_places (inl e) (inl f) tail later = sym e ∙ f
  by_places (inl e) (inr d) tail later = absurd (clash y d (sym same ∙ sym (ap number_of e)) tail.0)
  by_places (inr c) (inl f) tail later = absurd (clash x c (same ∙ sym (ap number_of f)) tail.0)
  by_places (inr c) (inr d) tail later = later tail.1 c d same

-- whoever is at a member or after it does not stand before it
pub from_not_before : (ms : List Member) (a p : ℕ) → AreApart ms → is_at_or_after ms a p ≡ true → is_before ms a p ≡ false
from_not_before [] a p apart e = refl
from_not_before (m ∷ ms) a p apart e = by_test (has_number p m) e (apart_tail m ms apart) (from_not_before ms a p) where
  by_test : (r : Bool) → is_member (cond r (m ∷ ms) (part_from p ms)) a ≡ true → (is_member ms (number_of m) ≡ false) × AreApart ms → (AreApart ms → is_at_or_after ms a p ≡ true → is_before ms a p ≡ false)
      → is_member (cond r [] (m ∷ part_before p ms)) a ≡ false
  by_test true e tail later = refl
  by_test false e tail later = by_own (has_number a m) refl where
    by_own : (b : Bool) → has_number a m ≡ b → (has_number a m || is_before ms a p) ≡ false
    by_own true is = absurd (let found = any_item (has_number a) (part_from p ms) e in
        let one : number_of found.0 ≡ number_of m = eqb-true (number_of found.0) a found.2 ∙ sym (eqb-true (number_of m) a is) in
        let no : ⊥ = both_ways (is_member ms (number_of m)) tail.0 (any_contains (has_number (number_of m)) ms found.0 (from_contains (has_number p) ms found.0 found.1) (eq-eqb (number_of found.0) (number_of m) one)) in no)
    by_own false is = ap (λ b. b || is_before ms a p) is ∙ later tail.1 e

-- whoever is at a member or after it is that member, or has it before
pub from_cases : (ms : List Member) (a p : ℕ) → AreApart ms → is_at_or_after ms a p ≡ true → (a ≡ p) ⊎ (is_before ms p a ≡ true)
from_cases ms a p apart e = by_one (is_one a p) where
  by_one : (a ≡ p) ⊎ (a ≢ p) → (a ≡ p) ⊎ (is_before ms p a ≡ true)
  by_one (inl same) = inl same
  by_one (inr other) =
      let here : is_member ms a ≡ true = member_parts ms a p ∙ or_right (is_before ms a p) (is_at_or_after ms a p) e in
      inr (before_total ms a p here other (from_not_before ms a p apart e))

-- a member after one is put before another
pub insert_item : (x : Member) (p : ℕ) (ms : List Member) (y : Member) → Contains (insert_before x p ms) y → (x ≡ y) ⊎ Contains ms y
insert_item x p [] y c = absurd (contains_none y c)
insert_item x p (m ∷ ms) y c = by_test (has_number p m) c (insert_item x p ms y) where
  by_test : (b : Bool) → Contains (cond b (x ∷ m ∷ ms) (m ∷ insert_before x p ms)) y → (Contains (insert_before x p ms) y → (x ≡ y) ⊎ Contains ms y) → (x ≡ y) ⊎ Contains (m ∷ ms) y
  by_test true c later = contains_cases x (m ∷ ms) y c
  by_test false c later = by_place (contains_cases m (insert_before x p ms) y c) where
    by_rest : (x ≡ y) ⊎ Contains ms y → (x ≡ y) ⊎ Contains (m ∷ ms) y
    by_rest (inl e) = inl e
    by_rest (inr d) = inr (contains_later m ms y d)

    by_place : (m ≡ y) ⊎ Contains (insert_before x p ms) y → (x ≡ y) ⊎ Contains (m ∷ ms) y
    by_place (inl e) = inr (subst (λ z. Contains (z ∷ ms) y) (sym e) (contains_here y ms))
    by_place (inr d) = by_rest (later d)
