-- The first seat of a session.
use Rattle.std.proofs.Common.{◌≡◌, ℕ, zero, suc, ◌<◌, Bool, true, false, ◌||◌, List, [], ◌∷◌, length, get_or, take, remove, Some, None, refl, sym, ap, ◌∙◌, arith}
use Rattle.std.specs.List.{list_any, find}
use Rattle.ltx_model.specs.Lists.{without_first}

pub or_false : (a b : Bool) → (a || b) ≡ false → (a ≡ false) × (b ≡ false)
or_false true b e = cc
or_false false b e = (refl, e)

module _ {A : Type 0} (test : A → Bool) where
  pub find_none : (xs : List A) → list_any test xs ≡ false → find test xs ≡ None
  find_none [] e = refl
  find_none (x ∷ xs) e = let both = or_false (test x) (list_any test xs) e in rw both.0 (find_none xs both.1)

  pub without_none : (xs : List A) → list_any test xs ≡ false → without_first test xs ≡ xs
  without_none [] e = refl
  without_none (x ∷ xs) e = let both = or_false (test x) (list_any test xs) e in rw both.0 (ap (λ l. x ∷ l) (without_none xs both.1))

  pub find_at : (xs : List A) (i : ℕ) (x : A) → i < length xs → x ≡ get_or xs i x → list_any test (take i xs) ≡ false → test x ≡ true → find test xs ≡ Some x
  find_at [] i x low is none passes = absurd (omega (arith, low))
  find_at (y ∷ ys) zero x low is none passes = rw (ap test (sym is) ∙ passes) (ap Some (sym is))
  find_at (y ∷ ys) (suc i) x low is none passes =
      let both = or_false (test y) (list_any test (take i ys)) none in rw both.0 (find_at ys i x (omega (arith, low)) is both.1 passes)

  pub without_at : (xs : List A) (i : ℕ) (x : A) → i < length xs → x ≡ get_or xs i x → list_any test (take i xs) ≡ false → test x ≡ true → without_first test xs ≡ remove xs i
  without_at [] i x low is none passes = absurd (omega (arith, low))
  without_at (y ∷ ys) zero x low is none passes = rw (ap test (sym is) ∙ passes) refl
  without_at (y ∷ ys) (suc i) x low is none passes =
      let both = or_false (test y) (list_any test (take i ys)) none in rw both.0 (ap (λ l. y ∷ l) (without_at ys i x (omega (arith, low)) is both.1 passes))
