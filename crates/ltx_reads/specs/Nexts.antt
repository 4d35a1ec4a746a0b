-- The least key from a bound on that passes a test.
use Rattle.std.specs.Prelude.{◌≡◌, ℕ, Bool, true, List, Option, Some, None}
use Rattle.std.specs.declared.cmp.Ordering.TheVariants.{Less}
use Rattle.ltx_model.specs.Keys.{key_cmp}
use Rattle.ltx_model.specs.NextKeys.{reaches}

-- the key is the least one that passes the test and reaches the bound
pub record IsLeastFrom (from : List ℕ) (strict : Bool) (test : List ℕ → Bool) (key : List ℕ) : Type 0 where
  pub within : reaches from strict key ≡ true
  pub passes : test key ≡ true
  pub least : (other : List ℕ) → reaches from strict other ≡ true → test other ≡ true → key_cmp other key ≡ Less → ⊥

-- the least key that passes the test and reaches the bound, if there is one
abbrev pub IsNext : List ℕ → Bool → (List ℕ → Bool) → Option (List ℕ) → Type 0
IsNext from strict test (Some key) = IsLeastFrom from strict test key
IsNext from strict test None = (key : List ℕ) → reaches from strict key ≡ true → test key ≡ true → ⊥
