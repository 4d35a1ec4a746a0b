-- Open transactions of which no two are of one session: with one more, one less, or one changed.
use Rattle.std.proofs.Common.{◌≡◌, ℕ, Bool, true, false, cond, ◌==◌, List, [], ◌∷◌, ◌++◌, Some, None, refl, sym, ap, ◌∙◌, subst}
use Rattle.std.specs.List.{find, AllByRecursion}
use Rattle.std.proofs.lemmas.Bool.{eqb-true, eq-eqb, ne_eqb}
use Rattle.ltx_model.specs.Lists.{change_first, without_first, IsPairwise}
use Rattle.ltx_model.specs.States.{Active, is_of}
use Rattle.ltx_lemmas.proofs.Lists.{all_map, all_push, all_without, true_false, none_some, find_none, find_none_from}
use Rattle.ltx_core.specs.Stands.{AreApart}

-- numbers that differ do so both ways
pub apart_back : (a b : ℕ) → (a == b) ≡ false → (b == a) ≡ false
apart_back a b apart = ne_eqb b a (λ e. true_false (sym (eq-eqb a b (sym e)) ∙ apart))

-- those of one session and another
of_other : (n m : ℕ) (o : Active) → is_of n o ≡ true → (m == n) ≡ false → is_of m o ≡ false
of_other n m o is apart = apart_back m o.session (subst (λ k. (m == k) ≡ false) (sym (eqb-true o.session n is)) apart)

module _ {A : Type 0} (R : A → A → Type 0) where
  pub pairs_push : (xs : List A) (y : A) → IsPairwise R xs → AllByRecursion (λ x. R x y) xs → IsPairwise R (xs ++ y ∷ [])
  pairs_push [] y pairs all = (tt, tt)
  pairs_push (x ∷ xs) y pairs all = (all_push (R x) xs y pairs.0 all.0, pairs_push xs y pairs.1 all.1)

  pub pairs_without : (test : A → Bool) (xs : List A) → IsPairwise R xs → IsPairwise R (without_first test xs)
  pairs_without test [] pairs = tt
  pairs_without test (x ∷ xs) pairs = by_test (test x) (pairs_without test xs pairs.1) where
    by_test : (b : Bool) → IsPairwise R (without_first test xs) → IsPairwise R (cond b xs (x ∷ without_first test xs))
    by_test true rest = pairs.1
    by_test false rest = (all_without (R x) test xs pairs.0, rest)

-- a change that leaves sessions as they are
module _ (n : ℕ) (f : Active → Active) (stays : (o : Active) → (f o).session ≡ o.session) where
  all_changed : (P : Active → Type 0) → ((o : Active) → P o → P (f o)) → (os : List Active) → AllByRecursion P os → AllByRecursion P (change_first (is_of n) f os)
  all_changed P keep [] all = tt
  all_changed P keep (o ∷ os) all = by_test (is_of n o) (all_changed P keep os all.1) where
    by_test : (b : Bool) → AllByRecursion P (change_first (is_of n) f os) → AllByRecursion P (cond b (f o ∷ os) (o ∷ change_first (is_of n) f os))
    by_test true rest = (keep o all.0, all.1)
    by_test false rest = (all.0, rest)

  pub apart_changed : (os : List Active) → IsPairwise AreApart os → IsPairwise AreApart (change_first (is_of n) f os)
  apart_changed [] pairs = tt
  apart_changed (o ∷ os) pairs = by_test (is_of n o) (apart_changed os pairs.1) where
    by_test : (b : Bool) → IsPairwise AreApart (change_first (is_of n) f os) → IsPairwise AreApart (cond b (f o ∷ os) (o ∷ change_first (is_of n) f os))
    by_test true rest = (all_map (AreApart o) (AreApart (f o)) (λ u apart. subst (λ k. (u.session == k) ≡ false) (sym (stays o)) apart) os pairs.0, pairs.1)
    by_test false rest = (all_changed (AreApart o) (λ u apart. subst (λ k. (k == o.session) ≡ false) (sym (stays u)) apart) os pairs.0, rest)

  pub none_changed : (m : ℕ) (os : List Active) → find (is_of m) (change_first (is_of n) f os) ≡ None → find (is_of m) os ≡ None
  none_changed m [] none = refl
  none_changed m (o ∷ os) none = by_test (is_of n o) none (none_changed m os) where
    head : (b : Bool) (r q : List Active) → ((f o).session == m) ≡ b → find (is_of m) (f o ∷ r) ≡ None → find (is_of m) r ≡ find (is_of m) q → find (is_of m) (o ∷ q) ≡ None
    head true r q is nothing same = absurd (true_false (sym is ∙ (find_none (is_of m) (f o ∷ r) nothing).0))
    head false r q is nothing same =
        let first : is_of m o ≡ false = subst (λ k. (k == m) ≡ false) (stays o) is in
        let rest : find (is_of m) r ≡ None = ap (λ b. cond b (Some (f o)) (find (is_of m) r)) (sym is) ∙ nothing in
        ap (λ b. cond b (Some o) (find (is_of m) q)) first ∙ sym same ∙ rest

    by_test : (b : Bool) → find (is_of m) (cond b (f o ∷ os) (o ∷ change_first (is_of n) f os)) ≡ None → (find (is_of m) (change_first (is_of n) f os) ≡ None → find (is_of m) os ≡ None)
        → find (is_of m) (o ∷ os) ≡ None
    by_test true nothing later = head ((f o).session == m) os os refl nothing refl
    by_test false nothing later = by_head (is_of m o) refl nothing where
      by_head : (b : Bool) → is_of m o ≡ b → cond b (Some o) (find (is_of m) (change_first (is_of n) f os)) ≡ None → find (is_of m) (o ∷ os) ≡ None
      by_head true is nothing = absurd (none_some (sym nothing))
      by_head false is nothing = ap (λ b. cond b (Some o) (find (is_of m) os)) is ∙ later nothing

-- without the one of a session none of that session is left, and the others are
pub apart_left : (n : ℕ) (os : List Active) (o : Active) → IsPairwise AreApart os → find (is_of n) os ≡ Some o → AllByRecursion (λ u. is_of n u ≡ false) (without_first (is_of n) os)
apart_left n [] o pairs is = tt
apart_left n (x ∷ xs) o pairs is = by_test (is_of n x) refl is (apart_left n xs o pairs.1) where
  by_test : (b : Bool) → is_of n x ≡ b → cond b (Some x) (find (is_of n) xs) ≡ Some o → (find (is_of n) xs ≡ Some o → AllByRecursion (λ u. is_of n u ≡ false) (without_first (is_of n) xs))
      → AllByRecursion (λ u. is_of n u ≡ false) (cond b xs (x ∷ without_first (is_of n) xs))
  by_test true here found later = all_map (AreApart x) (λ u. is_of n u ≡ false) (λ u apart. subst (λ k. (u.session == k) ≡ false) (eqb-true x.session n here) apart) xs pairs.0
  by_test false here found later = (here, later found)

pub none_left : (n m : ℕ) (os : List Active) → (m == n) ≡ false → AllByRecursion (λ u. is_of m u ≡ false) (without_first (is_of n) os) → AllByRecursion (λ u. is_of m u ≡ false) os
none_left n m [] apart all = tt
none_left n m (o ∷ os) apart all = by_test (is_of n o) refl all (none_left n m os apart) where
  by_test : (b : Bool) → is_of n o ≡ b → AllByRecursion (λ u. is_of m u ≡ false) (cond b os (o ∷ without_first (is_of n) os))
      → (AllByRecursion (λ u. is_of m u ≡ false) (without_first (is_of n) os) → AllByRecursion (λ u. is_of m u ≡ false) os) → AllByRecursion (λ u. is_of m u ≡ false) (o ∷ os)
  by_test true here rest later = (of_other n m o here apart, rest)
  by_test false here rest later = (rest.0, later rest.1)

pub find_left : (n m : ℕ) (os : List Active) → (m == n) ≡ false → find (is_of m) (without_first (is_of n) os) ≡ None → find (is_of m) os ≡ None
find_left n m os apart none = find_none_from (is_of m) os (none_left n m os apart (find_none (is_of m) (without_first (is_of n) os) none))

-- one more, of a session that has none
pub all_before : (os : List Active) (o : Active) (P : Active → Type 0) → AllByRecursion P (os ++ o ∷ []) → AllByRecursion P os × P o
all_before [] o P all = (tt, all.0)
all_before (u ∷ us) o P all = let rest = all_before us o P all.1 in ((all.0, rest.0), rest.1)

pub apart_more : (os : List Active) (o : Active) → IsPairwise AreApart os → find (is_of o.session) os ≡ None → IsPairwise AreApart (os ++ o ∷ [])
apart_more os o pairs none =
    pairs_push AreApart os o pairs (all_map (λ u. is_of o.session u ≡ false) (λ u. AreApart u o) (λ u apart. apart_back u.session o.session apart) os (find_none (is_of o.session) os none))

pub find_more : (m : ℕ) (os : List Active) (o : Active) → find (is_of m) (os ++ o ∷ []) ≡ None → (find (is_of m) os ≡ None) × (is_of m o ≡ false)
find_more m os o none =
    let both = all_before os o (λ u. is_of m u ≡ false) (find_none (is_of m) (os ++ o ∷ []) none) in
    (find_none_from (is_of m) os both.0, both.1)
