-- What a source tells of the calls of its `read`.
use Rattle.std.specs.Prelude.{ℕ, ◌≡◌, Option, IfSome, IsSomeAnd, Result, Ok, Err}
use Rattle.ltx_outside.specs.Faults.{next_count}

-- how many calls were made, and how many bytes the last one gave
pub record Reads : Type 0 where
  pub calls : ℕ
  pub last : ℕ

-- how many bytes a call gave: none where it failed
abbrev pub bytes_given : {E : Type 0} → Result ℕ E → ℕ
bytes_given (Ok n) = n
bytes_given (Err e) = 0

-- one more call was made, and this is what it gave
abbrev pub CountsRead : {E : Type 0} → Option Reads → Option Reads → Result ℕ E → Type 0
CountsRead old new result = IfSome old (λ before. IsSomeAnd new (λ after. (after.calls ≡ next_count before.calls) × (after.last ≡ bytes_given result)))
