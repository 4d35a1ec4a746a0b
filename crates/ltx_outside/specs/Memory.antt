-- What the devices in memory show: their bytes, their room and their calls.
use Rattle.std.specs.Prelude.{ℕ, ◌≡◌, ◌≤◌, List, Bool, nat_eq, OnOk, OnErr}
use Rattle.std.specs.List.{list_any}
use Rattle.std.specs.declared.result.Result.{Result}
use Rattle.ltx_outside.specs.Faults.{next_count}

-- how many calls were made, the numbers of those that are to fail, and how many failed
pub record CallCounts : Type 0 where
  pub made : ℕ
  pub failing : List ℕ
  pub faults : ℕ

-- a source: the bytes still to be taken, and how many the last call gave
pub record SourceState : Type 0 where
  pub left : List ℕ
  pub last : ℕ
  pub calls : CallCounts

-- a sink: the bytes written, and how many it has room for
pub record SinkState : Type 0 where
  pub written : List ℕ
  pub room : ℕ
  pub calls : CallCounts

-- a disk: its bytes, and how many it has room for
pub record DiskState : Type 0 where
  pub bytes : List ℕ
  pub room : ℕ
  pub calls : CallCounts

-- the last call made is one of those that are to fail
abbrev pub is_to_fail : CallCounts → Bool
is_to_fail calls = list_any (λ n. nat_eq n calls.made) calls.failing

-- no call yet
abbrev pub no_calls : List ℕ → CallCounts
no_calls failing = record { made = 0; failing = failing; faults = 0 }

-- one more call was made, and the count of faults rose by it exactly where it failed
pub record CountsCall {T E : Type 0} (old new : CallCounts) (result : Result T E) : Type 0 where
  pub made : new.made ≡ next_count old.made
  pub failing : new.failing ≡ old.failing
  pub later : old.faults ≤ new.faults
  pub calm : OnOk result (new.faults ≡ old.faults)
  pub rose : OnErr result (new.faults ≡ next_count old.faults)
