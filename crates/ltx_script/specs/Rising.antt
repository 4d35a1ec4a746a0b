-- Strictly rising tables.
use Rattle.std.specs.Prelude.{ℕ, ◌+◌, ◌<◌, ◌≤◌, List, [], ◌∷◌}

-- strictly rising tables, none below the first number
abbrev pub IsRisingFrom : ℕ → List ℕ → Type 0
IsRisingFrom least [] = Unit {0}
IsRisingFrom least (t ∷ ts) = (least ≤ t) × (t < 64) × IsRisingFrom (t + 1) ts
