-- Two rising lists of the same numbers are one.
use Rattle.std.proofs.Common.{◌≡◌, Bool, true, false, ℕ, suc, ◌<◌, ◌≤◌, List, [], ◌∷◌, length, get_or, refl, sym, ap, subst, ◌∙◌, arith, inl, inr}
use Rattle.std.specs.Prelude.{nat_lt, if◌then◌else◌, sum_by, bytes_eq}
use Rattle.std.specs.List.{AllByRecursion}
use Rattle.std.specs.List.Sorted.{IsPermutation, IsNonDecreasing}
use Rattle.ltx_text.proofs.WordReadings.{text_is, same_bytes}
use Rattle.std.proofs.lemmas.Bool.{cases_lt, lt-ltb, le-ltb}
use Rattle.std.proofs.lemmas.List.Sums.{sum_by-cons}
use Rattle.std.proofs.lemmas.List.Sorted.{IsPermutation-refl, IsPermutation-sym, IsPermutation-trans, sum_by-IsPermutation}

abbrev Rises : List ℕ → Type 0
Rises [] = Unit {0}
Rises (x ∷ xs) = AllByRecursion (λ y. x ≤ y) xs × Rises xs

all_at : (x : ℕ) (xs : List ℕ) → ((k : ℕ) → k < length xs → x ≤ get_or xs k 0) → AllByRecursion (λ y. x ≤ y) xs
all_at x [] least = tt
all_at x (y ∷ xs) least = (least 0 (omega arith), all_at x xs (λ k low. least (suc k) (omega (arith, low))))

rises : (xs : List ℕ) → IsNonDecreasing xs → Rises xs
rises [] up = tt
rises (x ∷ xs) up = (all_at x xs (λ k low. up 0 (suc k) 0 (omega arith) (omega (arith, low))), rises xs (λ i j d le low. up (suc i) (suc j) d (omega (arith, le)) (omega (arith, low))))

-- 1 for a number below y
abbrev below : ℕ → ℕ → ℕ
below y n = if nat_lt n y then 1 else 0

below_yes : (y n : ℕ) → n < y → below y n ≡ 1
below_yes y n low = rw (lt-ltb n y low) refl

below_no : (y n : ℕ) → y ≤ n → below y n ≡ 0
below_no y n high = rw (le-ltb n y high) refl

none_below : (y : ℕ) (ys : List ℕ) → AllByRecursion (λ n. y ≤ n) ys → sum_by (below y) ys ≡ 0
none_below y [] all = refl
none_below y (n ∷ ys) all = omega (arith, sum_by-cons (below y) n ys, below_no y n all.0, none_below y ys all.1)

abbrev CountAlike : List ℕ → List ℕ → Type 0
CountAlike xs ys = (f : ℕ → ℕ) → sum_by f xs ≡ sum_by f ys

not_less : (x y : ℕ) (xs ys : List ℕ) → AllByRecursion (λ n. y ≤ n) ys → CountAlike (x ∷ xs) (y ∷ ys) → x < y → ⊥
not_less x y xs ys all alike low =
    omega (arith, alike (below y), sum_by-cons (below y) x xs, sum_by-cons (below y) y ys, below_yes y x low, below_no y y (omega arith), none_below y ys all)

none_sum : (f : ℕ → ℕ) → sum_by f [] ≡ 0
none_sum f = refl

one_list : (xs ys : List ℕ) → Rises xs → Rises ys → CountAlike xs ys → xs ≡ ys
one_list [] [] up up' alike = refl
one_list [] (y ∷ ys) up up' alike = absurd (omega (arith, none_sum (λ n. 1), alike (λ n. 1), sum_by-cons (λ n. 1) y ys))
one_list (x ∷ xs) [] up up' alike = absurd (omega (arith, none_sum (λ n. 1), alike (λ n. 1), sum_by-cons (λ n. 1) x xs))
one_list (x ∷ xs) (y ∷ ys) up up' alike =
    let first : x ≡ y = elim (cases_lt x y) [
      | inl low ↦ absurd (not_less x y xs ys up'.0 alike low)
      | inr high ↦ elim (cases_lt y x) [
        | inl low ↦ absurd (not_less y x ys xs up.0 (λ f. sym (alike f)) low)
        | inr high' ↦ omega (arith, high, high')
      ]
    ] in
    let rest : xs ≡ ys = one_list xs ys up.1 up'.1 (λ f. omega (arith, alike f, ap f first, sum_by-cons f x xs, sum_by-cons f y ys)) in
    λ i. first i ∷ rest i

-- sorted lists of numbers are one exactly where the numbers are
pub sorted_one : (a b sa sb : List ℕ) → IsPermutation a sa → IsPermutation b sb → IsNonDecreasing sa → IsNonDecreasing sb → IsPermutation a b → sa ≡ sb
sorted_one a b sa sb pa pb up up' p =
    one_list sa sb (rises sa up) (rises sb up') (λ f. sum_by-IsPermutation f a sa pa ∙ sym (sum_by-IsPermutation f a b p) ∙ sym (sum_by-IsPermutation f b sb pb))

pub permuted : (a b sa sb : List ℕ) → IsPermutation a sa → IsPermutation b sb → sa ≡ sb → IsPermutation a b
permuted a b sa sb pa pb is = IsPermutation-trans a sa b pa (IsPermutation-trans sa sb b (same sa sb is) (IsPermutation-sym b sb pb))
  where
    same : (xs ys : List ℕ) → xs ≡ ys → IsPermutation xs ys
    same xs ys e = subst (IsPermutation xs) e (IsPermutation-refl xs)

pub same_yes : (a b sa sb : List ℕ) (r : Bool) → r ≡ bytes_eq sa sb → IsPermutation a sa → IsPermutation b sb → r ≡ true → IsPermutation a b
same_yes a b sa sb r is pa pb so = permuted a b sa sb pa pb (text_is sa sb (sym is ∙ so))

pub same_no : (a b sa sb : List ℕ) (r : Bool) → r ≡ bytes_eq sa sb → IsPermutation a sa → IsPermutation b sb → IsNonDecreasing sa → IsNonDecreasing sb → r ≡ false → IsPermutation a b → ⊥
same_no a b sa sb r is pa pb up up' other p =
    let so : bytes_eq sa sb ≡ true = same_bytes sa sb (sorted_one a b sa sb pa pb up up' p) in
    let e : true ≡ false = sym so ∙ sym is ∙ other in
    cc
