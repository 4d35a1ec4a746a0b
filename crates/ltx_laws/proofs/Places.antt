-- Who stands before whom in an agenda: from what holds of each pair of its members. No state.
use Rattle.std.proofs.Common.{◌⊎◌, inl, inr, ◌<◌, ◌≤◌, nat_lt, ltb-true, ltb-false, arith, Some, eq-eqb}
use Rattle.std.specs.List.{find}
use Rattle.ltx_model.specs.Agenda.{part_from}
use Rattle.ltx_lemmas.proofs.Lists.{all_from, all_filter, any_contains, some_same}
use Rattle.std.proofs.Common.{◌≡◌, ◌≢◌, ℕ, Bool, true, false, cond, not, ◌||◌, ◌&&◌, List, [], ◌∷◌, refl, sym, ap, ◌∙◌, subst}
use Rattle.std.specs.List.{list_any, AllByRecursion}
use Rattle.ltx_model.specs.Lists.{before_first, IsPairwise}
use Rattle.ltx_model.specs.Agenda.{Member, number_of, has_number, is_member, without_member, part_before}
use Rattle.ltx_lemmas.proofs.Lists.{true_false, before_fails}
use Rattle.ltx_laws.proofs.Pairs.{same_number}

pub and_left : (a b : Bool) → (a && b) ≡ true → a ≡ true
and_left true b e = refl
and_left false b e = e

pub and_right : (a b : Bool) → (a && b) ≡ true → b ≡ true
and_right true b e = e
and_right false b e = cc

pub both : (a b : Bool) → a ≡ true → b ≡ true → (a && b) ≡ true
both a b x y = rw (x, y) refl

pub any_before : {A : Type 0} (test stop : A → Bool) (xs : List A) → list_any test (before_first stop xs) ≡ true → list_any test xs ≡ true
any_before test stop [] e = e
any_before test stop (x ∷ xs) e = by_tests (stop x) (test x) refl e (any_before test stop xs) where
  by_tests : (a b : Bool) → test x ≡ b → list_any test (cond a [] (x ∷ before_first stop xs)) ≡ true → (list_any test (before_first stop xs) ≡ true → list_any test xs ≡ true) → (b || list_any test xs) ≡ true
  by_tests true b is e later = cc
  by_tests false true is e later = refl
  by_tests false false is e later = later (sym (ap (λ c. c || list_any test (before_first stop xs)) is) ∙ e)

-- what holds of every member's number holds of one that is a member's
pub all_at : (P : ℕ → Type 0) (n : ℕ) (ms : List Member) → AllByRecursion (λ m. P (number_of m)) ms → is_member ms n ≡ true → P n
all_at P n [] all e = cc
all_at P n (m ∷ ms) all e = by_test (has_number n m) refl e (all_at P n ms all.1) where
  by_test : (b : Bool) → has_number n m ≡ b → (b || is_member ms n) ≡ true → (is_member ms n ≡ true → P n) → P n
  by_test true is e later = subst P (same_number (number_of m) n is) all.0
  by_test false is e later = later e

-- p stands before k: then k comes after each member before p
pub in_front : (R : ℕ → ℕ → Type 0) (k p : ℕ) (ms : List Member) → IsPairwise (λ x y. R (number_of x) (number_of y)) ms → is_member ms k ≡ true → is_member (part_before k ms) p ≡ true → AllByRecursion (λ y. R (number_of y) k) (part_before p ms)
in_front R k p [] pairs member ahead = tt
in_front R k p (m ∷ ms) pairs member ahead = by_tests (has_number p m) (has_number k m) refl refl member ahead (in_front R k p ms pairs.1) where
  by_tests : (a b : Bool) → has_number p m ≡ a → has_number k m ≡ b → (b || is_member ms k) ≡ true → is_member (cond b [] (m ∷ part_before k ms)) p ≡ true
      → (is_member ms k ≡ true → is_member (part_before k ms) p ≡ true → AllByRecursion (λ y. R (number_of y) k) (part_before p ms)) → AllByRecursion (λ y. R (number_of y) k) (cond a [] (m ∷ part_before p ms))
  by_tests true b is at e ahead later = tt
  by_tests false true is at e ahead later = cc
  by_tests false false is at e ahead later = (all_at (λ n. R (number_of m) n) k ms pairs.0 e, later e (sym (ap (λ c. c || is_member (part_before k ms) p) is) ∙ ahead))

-- two members, of which the second cannot stand first
pub stands_first : (R : ℕ → ℕ → Type 0) (j k : ℕ) (ms : List Member) → IsPairwise (λ x y. R (number_of x) (number_of y)) ms → is_member ms j ≡ true → is_member ms k ≡ true → (R k j → ⊥) → j ≢ k → is_member (part_before k ms) j ≡ true
stands_first R j k [] pairs mj mk never apart = cc
stands_first R j k (m ∷ ms) pairs mj mk never apart = by_tests (has_number j m) (has_number k m) refl refl mj mk (stands_first R j k ms pairs.1) where
  by_tests : (a b : Bool) → has_number j m ≡ a → has_number k m ≡ b → (a || is_member ms j) ≡ true → (b || is_member ms k) ≡ true
      → (is_member ms j ≡ true → is_member ms k ≡ true → (R k j → ⊥) → j ≢ k → is_member (part_before k ms) j ≡ true) → is_member (cond b [] (m ∷ part_before k ms)) j ≡ true
  by_tests true true isj isk ej ek later = absurd (apart (sym (same_number (number_of m) j isj) ∙ same_number (number_of m) k isk))
  by_tests true false isj isk ej ek later = ap (λ c. c || is_member (part_before k ms) j) isj
  by_tests false true isj isk ej ek later = absurd (never (subst (λ n. R n j) (same_number (number_of m) k isk) (all_at (λ n. R (number_of m) n) j ms pairs.0 ej)))
  by_tests false false isj isk ej ek later = ap (λ c. c || is_member (part_before k ms) j) isj ∙ later ej ek never apart

-- what holds before p holds there without another member
pub before_without : (Q : Member → Type 0) (p k : ℕ) → p ≢ k → (ms : List Member) → AllByRecursion Q (part_before p ms) → AllByRecursion Q (part_before p (without_member ms k))
before_without Q p k apart [] all = tt
before_without Q p k apart (m ∷ ms) all = by_tests (has_number k m) (has_number p m) refl refl all (before_without Q p k apart ms) where
  by_tests : (a b : Bool) → has_number k m ≡ a → has_number p m ≡ b → AllByRecursion Q (cond b [] (m ∷ part_before p ms)) → (AllByRecursion Q (part_before p ms) → AllByRecursion Q (part_before p (without_member ms k)))
      → AllByRecursion Q (part_before p (cond (not a) (m ∷ without_member ms k) (without_member ms k)))
  by_tests true true isk isp all later = absurd (apart (sym (same_number (number_of m) p isp) ∙ same_number (number_of m) k isk))
  by_tests true false isk isp all later = later all.1
  by_tests false true isk isp all later = rw isp tt
  by_tests false false isk isp all later = rw isp (all.0, later all.1)

-- a member that stands before k is not k
pub before_apart : (k p : ℕ) (ms : List Member) → is_member (part_before k ms) p ≡ true → p ≢ k
before_apart k p ms ahead same = true_false (sym (subst (λ n. is_member (part_before k ms) n ≡ true) same ahead) ∙ none (part_before k ms) (before_fails (has_number k) ms)) where
  none : (xs : List Member) → AllByRecursion (λ x. has_number k x ≡ false) xs → is_member xs k ≡ false
  none [] all = refl
  none (x ∷ xs) all = rw all.0 (none xs all.1)

-- the members of a list, and those from p on without another one
pub members_are : (ms : List Member) → AllByRecursion (λ y. is_member ms (number_of y) ≡ true) ms
members_are ms = all_from (λ y. is_member ms (number_of y) ≡ true) ms (λ y here. any_contains (has_number (number_of y)) ms y here (eq-eqb (number_of y) (number_of y) refl))

pub from_without : (p k : ℕ) → p ≢ k → (ms : List Member) → AllByRecursion (λ y. is_member (part_from p ms) (number_of y) ≡ true) (part_from p (without_member ms k))
from_without p k apart [] = tt
from_without p k apart (m ∷ ms) = by_tests (has_number k m) (has_number p m) refl refl (from_without p k apart ms) where
  by_tests : (a b : Bool) → has_number k m ≡ a → has_number p m ≡ b → AllByRecursion (λ y. is_member (part_from p ms) (number_of y) ≡ true) (part_from p (without_member ms k))
      → AllByRecursion (λ y. is_member (cond b (m ∷ ms) (part_from p ms)) (number_of y) ≡ true) (part_from p (cond (not a) (m ∷ without_member ms k) (without_member ms k)))
  by_tests true true isk isp rest = absurd (apart (sym (same_number (number_of m) p isp) ∙ same_number (number_of m) k isk))
  by_tests true false isk isp rest = rest
  by_tests false true isk isp rest = let all = members_are (m ∷ ms) in rw isp (all.0, all_filter (λ y. is_member (m ∷ ms) (number_of y) ≡ true) (λ x. not (has_number k x)) ms all.1)
  by_tests false false isk isp rest = rw isp rest

-- a search passes over what stands before the number of what it finds
pub found_first : (test : Member → Bool) (p : ℕ) (ms : List Member) (m : Member) → find test ms ≡ Some m → number_of m ≡ p → AllByRecursion (λ x. test x ≡ false) (part_before p ms)
found_first test p [] m e at = tt
found_first test p (x ∷ xs) m e at = by_tests (test x) (has_number p x) refl refl e (found_first test p xs m) where
  by_tests : (a b : Bool) → test x ≡ a → has_number p x ≡ b → cond a (Some x) (find test xs) ≡ Some m → (find test xs ≡ Some m → number_of m ≡ p → AllByRecursion (λ y. test y ≡ false) (part_before p xs)) → AllByRecursion (λ y. test y ≡ false) (cond b [] (x ∷ part_before p xs))
  by_tests a true is isp e later = tt
  by_tests true false is isp e later = let same : x ≡ m = some_same e in absurd (true_false (sym (eq-eqb (number_of x) p (ap number_of same ∙ at)) ∙ isp))
  by_tests false false is isp e later = (is, later e at)

-- of two different numbers one is smaller
pub one_smaller : (a b : ℕ) → a ≢ b → (a < b) ⊎ (b < a)
one_smaller a b apart = by_test (nat_lt a b) refl where
  by_test : (t : Bool) → nat_lt a b ≡ t → (a < b) ⊎ (b < a)
  by_test true is = inl (ltb-true a b is)
  by_test false is = let h : b ≤ a = ltb-false a b is in let less : b < a = omega arith in inr less
