-- What a write does to the bytes of a disk.
use Rattle.std.specs.Prelude.{ℕ, ◌≡◌, ◌+◌, ◌≤◌, List, ◌++◌, length, take, drop}

-- the bytes with a piece in the place of those from `at` on, lengthened where it ends past them
abbrev pub overwritten : ℕ → List ℕ → List ℕ → List ℕ
overwritten at piece bytes = take at bytes ++ piece ++ drop (at + length piece) bytes

-- nothing but n bytes from `at` on changed, and none went away
pub record ChangesWithin (at n : ℕ) (old new : List ℕ) : Type 0 where
  pub before : take at new ≡ take at old
  pub behind : drop (at + n) new ≡ drop (at + n) old
  pub longer : length old ≤ length new
