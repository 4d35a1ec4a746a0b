-- Stamps of two rising lists in one rising list.
use Rattle.std.specs.Prelude.{ℕ, ◌==◌, nat_lt, List, [], ◌∷◌, if◌then◌else◌}

-- a stamp and those behind it among these, where the ones behind it are merged as told
abbrev pub merge_from : ℕ → List ℕ → (List ℕ → List ℕ) → List ℕ → List ℕ
merge_from x xs rest [] = x ∷ xs
merge_from x xs rest (y ∷ ys) = if x == y then x ∷ rest ys else (if nat_lt x y then x ∷ rest (y ∷ ys) else y ∷ merge_from x xs rest ys)

-- the stamps of both lists in their order, each once
abbrev pub merged : List ℕ → List ℕ → List ℕ
merged [] ys = ys
merged (x ∷ xs) ys = merge_from x xs (merged xs) ys
