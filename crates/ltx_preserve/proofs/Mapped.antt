-- A list whose first items are changed, one after the other.
use Rattle.std.proofs.Common.{◌≡◌, ℕ, zero, suc, ◌+◌, add-one, ◌<◌, ◌≤◌, arith, List, [], ◌∷◌, ◌++◌, length, map, take, drop, set, get_or, refl, ap}

next_mapped : {A : Type 0} (f : A → A) (xs : List A) (i : ℕ) (x : A) → i < length xs → x ≡ get_or (map f (take i xs) ++ drop i xs) i x
    → set (map f (take i xs) ++ drop i xs) i (f x) ≡ map f (take (suc i) xs) ++ drop (suc i) xs
next_mapped f [] i x within is = absurd (omega arith)
next_mapped f (y ∷ ys) zero x within is = ap (λ z. f z ∷ ys) is
next_mapped f (y ∷ ys) (suc i) x within is = ap (λ l. f y ∷ l) (next_mapped f ys i x (omega arith) is)

-- one item more is changed
pub one_more_mapped : {A : Type 0} (f : A → A) (xs ys : List A) (i : ℕ) (x : A) → i < length xs → ys ≡ map f (take i xs) ++ drop i xs → x ≡ get_or ys i x
    → set ys i (f x) ≡ map f (take (i + 1) xs) ++ drop (i + 1) xs
one_more_mapped f xs ys i x within so_far is = rw add-one (rw so_far (next_mapped f xs i x within (rw so_far at is)))

-- all items are changed
pub all_mapped : {A : Type 0} (f : A → A) (xs : List A) (i : ℕ) → length xs ≤ i → map f (take i xs) ++ drop i xs ≡ map f xs
all_mapped f [] zero past = refl
all_mapped f [] (suc i) past = refl
all_mapped f (y ∷ ys) zero past = absurd (omega arith)
all_mapped f (y ∷ ys) (suc i) past = ap (λ l. f y ∷ l) (all_mapped f ys i (omega arith))
