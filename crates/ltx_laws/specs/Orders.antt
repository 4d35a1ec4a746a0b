-- Places in an order, and beginnings of lists.
use Rattle.std.specs.Prelude.{◌≡◌, ◌⊎◌, ℕ, true, ◌==◌, List, [], ◌∷◌, ◌++◌}
use Rattle.std.specs.List.{list_any}
use Rattle.ltx_model.specs.Lists.{before_first}

-- a stands before b: both are in the list, and a is among those before the first b
pub record StandsBefore (numbers : List ℕ) (a b : ℕ) : Type 0 where
  pub member : list_any (λ n. n == b) numbers ≡ true
  pub before : list_any (λ n. n == a) (before_first (λ n. n == b) numbers) ≡ true

-- the second list begins with the first
pub record IsPrefix {A : Type 0} (front whole : List A) : Type 0 where
  pub rest : List A
  pub parts : whole ≡ front ++ rest

-- the items of the first list stand in the second, in the same order
abbrev pub IsSublist : {A : Type 0} → List A → List A → Type 0
IsSublist [] ys = Unit {0}
IsSublist (x ∷ xs) [] = ⊥
IsSublist (x ∷ xs) (y ∷ ys) = ((x ≡ y) × IsSublist xs ys) ⊎ IsSublist (x ∷ xs) ys
