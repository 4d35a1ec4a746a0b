-- What a call does to the count of faults of a device.
use Rattle.std.specs.Prelude.{ℕ, ◌≡◌, ◌≤◌, OnOk, OnErr}
use Rattle.std.specs.declared.result.Result.{Result}
use Rattle.ltx_outside.specs.Faults.{next_count}

-- the count stayed where the call succeeded, and rose by one where it failed, up to its type's end
pub record CountsFault {T E : Type 0} (old new : ℕ) (result : Result T E) : Type 0 where
  pub later : old ≤ new
  pub calm : OnOk result (new ≡ old)
  pub rose : OnErr result (new ≡ next_count old)
