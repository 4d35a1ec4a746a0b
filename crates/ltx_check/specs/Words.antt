-- Words of a line, told by the spaces between them.
use Rattle.std.specs.Prelude.{◌≡◌, ℕ, ◌<◌, ◌==◌, false, List, [], ◌∷◌, ◌++◌, length, take, drop}
use Rattle.std.specs.List.{AllByRecursion}
use Rattle.ltx_model.specs.Limits.{IsTx}
use Rattle.ltx_check.specs.Texts.{spaced_number}

-- no byte is a space
abbrev pub HasNoSpace : List ℕ → Type 0
HasNoSpace word = AllByRecursion (λ b. (b == 32) ≡ false) word

-- what stands here ends a word: a space, or nothing
abbrev pub EndsWord : List ℕ → Type 0
EndsWord [] = Unit {0}
EndsWord (b ∷ rest) = b ≡ 32

-- the first space stands at this place
pub record EndsAt (text : List ℕ) (at : ℕ) : Type 0 where
  pub within : at < length text
  pub apart : HasNoSpace (take at text)
  pub ends : EndsWord (drop at text)

-- no number of a transaction stands first, behind a space
abbrev pub NoNumber : List ℕ → Type 0
NoNumber text = (n : ℕ) (rest : List ℕ) → IsTx n → EndsWord rest → text ≡ spaced_number n ++ rest → ⊥
