-- The first item that passes a test: to find it, to change it and to remove it.
use Rattle.std.proofs.Common.{◌≡◌, ℕ, zero, suc, ◌<◌, arith, Bool, true, false, ◌||◌, List, [], ◌∷◌, ◌++◌, length, get_or, take, drop, set, remove, Some, None, refl, sym, ap, ◌∙◌}
use Rattle.std.specs.List.{list_any, find}
use Rattle.std.proofs.Math.Seq.{drop-cons}
use Rattle.std.proofs.lemmas.List.{set_split, take-append-drop}
use Rattle.ltx_model.specs.Lists.{change_first, without_first}
use Rattle.ltx_model.specs.Firsts.{IsFirst}

pub or_false : (a b : Bool) → (a || b) ≡ false → (a ≡ false) × (b ≡ false)
or_false true b e = cc
or_false false b e = (refl, e)

module _ {A : Type 0} (test : A → Bool) where
  pub find_none : (xs : List A) → list_any test xs ≡ false → find test xs ≡ None
  find_none [] e = refl
  find_none (x ∷ xs) e = let both = or_false (test x) (list_any test xs) e in rw both.0 (find_none xs both.1)

  find_behind : (front : List A) (x : A) (back : List A) → list_any test front ≡ false → test x ≡ true → find test (front ++ x ∷ back) ≡ Some x
  find_behind [] x back e h = rw h refl
  find_behind (y ∷ ys) x back e h = let both = or_false (test y) (list_any test ys) e in rw both.0 (find_behind ys x back both.1 h)

  change_behind : (f : A → A) (front : List A) (x : A) (back : List A) → list_any test front ≡ false → test x ≡ true → change_first test f (front ++ x ∷ back) ≡ front ++ f x ∷ back
  change_behind f [] x back e h = rw h refl
  change_behind f (y ∷ ys) x back e h = let both = or_false (test y) (list_any test ys) e in rw both.0 (ap (λ l. y ∷ l) (change_behind f ys x back both.1 h))

  without_behind : (front : List A) (x : A) (back : List A) → list_any test front ≡ false → test x ≡ true → without_first test (front ++ x ∷ back) ≡ front ++ back
  without_behind [] x back e h = rw h refl
  without_behind (y ∷ ys) x back e h = let both = or_false (test y) (list_any test ys) e in rw both.0 (ap (λ l. y ∷ l) (without_behind ys x back both.1 h))

  split_at : (xs : List A) (i : ℕ) (x : A) → i < length xs → x ≡ get_or xs i x → xs ≡ take i xs ++ x ∷ drop (suc i) xs
  split_at xs i x within is = sym (take-append-drop i xs) ∙ ap (λ l. take i xs ++ l) (drop-cons xs i x within ∙ ap (λ z. z ∷ drop (suc i) xs) (sym is))

  pub find_first : (xs : List A) (i : ℕ) (x : A) → IsFirst test xs i → x ≡ get_or xs i x → find test xs ≡ Some x
  find_first xs i x first is = ap (find test) (split_at xs i x first.within is) ∙ find_behind (take i xs) x (drop (suc i) xs) first.before (ap test is ∙ first.passes x)

  pub change_first_at : (f : A → A) (xs : List A) (i : ℕ) (x : A) → IsFirst test xs i → x ≡ get_or xs i x → change_first test f xs ≡ set xs i (f x)
  change_first_at f xs i x first is = ap (change_first test f) (split_at xs i x first.within is) ∙ change_behind f (take i xs) x (drop (suc i) xs) first.before (ap test is ∙ first.passes x) ∙ sym (set_split xs i (f x) first.within)

  pub without_first_at : (xs : List A) (i : ℕ) (x : A) → IsFirst test xs i → x ≡ get_or xs i x → without_first test xs ≡ remove xs i
  without_first_at xs i x first is = ap (without_first test) (split_at xs i x first.within is) ∙ without_behind (take i xs) x (drop (suc i) xs) first.before (ap test is ∙ first.passes x)

pub at_place : {A : Type 0} (xs : List A) (i : ℕ) → i < length xs → (x : A) × (x ≡ get_or xs i x)
at_place [] i h = absurd (omega arith)
at_place (x ∷ xs) zero h = (x, refl)
at_place (x ∷ xs) (suc i) h = at_place xs i (omega arith)
