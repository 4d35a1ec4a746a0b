-- The first item of a list that passes a test, by its place.
use Rattle.std.specs.Prelude.{◌≡◌, ℕ, ◌<◌, Bool, true, false, List, length, take, slice_index_or}
use Rattle.std.specs.List.{list_any}

-- the first item that passes stands at this place
pub record IsFirst {A : Type 0} (test : A → Bool) (xs : List A) (place : ℕ) : Type 0 where
  pub within : place < length xs
  pub passes : (d : A) → test (slice_index_or xs place d) ≡ true
  pub before : list_any test (take place xs) ≡ false
