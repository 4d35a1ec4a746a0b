-- The first eight bytes of a key as a number, by which most keys are told apart.
use Rattle.std.specs.Prelude.{◌≡◌, ℕ, suc, zero, ◌<◌, List, [], ◌∷◌, map, get_or}
use Rattle.std.specs.Int.{w64, from_be_bytes}
use Rattle.std.specs.List.{AllByRecursion}
use Rattle.std.specs.List.Sorted.{IsStrictlySortedBy}
use Rattle.ltx_model.specs.Keys.{key_cmp}

-- the first so many bytes, with zeros behind them where there are fewer
abbrev pub padded : ℕ → List ℕ → List ℕ
padded zero xs = []
padded (suc n) [] = 0 ∷ padded n []
padded (suc n) (x ∷ xs) = x ∷ padded n xs

-- the number of the first eight bytes
unfoldable pub head_of : List ℕ → ℕ
head_of xs = from_be_bytes w64 (padded 8 xs)

-- each is a byte
abbrev pub AreLow : List ℕ → Type 0
AreLow xs = (i : ℕ) → get_or xs i 0 < 256

-- the first of keys, and no bytes where there is none
abbrev pub first_of : List (List ℕ) → List ℕ
first_of [] = []
first_of (k ∷ ks) = k

-- the first of heads, and that of no bytes where there is none
abbrev pub low_of : List ℕ → ℕ
low_of [] = head_of []
low_of (h ∷ hs) = h

-- Keys in rising order, the head of each, and the head of the first.
pub record AreHeaded (keys : List (List ℕ)) (heads : List ℕ) (low : ℕ) : Type 0 where
  pub in_order : IsStrictlySortedBy key_cmp keys
  pub bytes : AllByRecursion AreLow keys
  pub each : heads ≡ map head_of keys
  pub first : low ≡ head_of (first_of keys)
