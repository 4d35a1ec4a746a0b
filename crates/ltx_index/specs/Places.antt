-- Places in a run of keys that stand in rising order.
use Rattle.std.specs.Prelude.{◌≡◌, ℕ, ◌<◌, ◌≤◌, Bool, true, false, Some, List, length, take, drop, slice_get, IfSome}
use Rattle.std.specs.List.{AllByRecursion}
use Rattle.std.specs.List.Sorted.{IsStrictlySortedBy}
use Rattle.std.specs.declared.cmp.Ordering.TheVariants.{Less, Greater}
use Rattle.ltx_model.specs.Keys.{key_cmp}
use Rattle.ltx_model.specs.NextKeys.{reaches}

-- at most 128 keys in rising order, with as many values
pub record IsRun {V : Type 0} (keys : List (List ℕ)) (values : List V) : Type 0 where
  pub as_many : length keys ≡ length values
  pub at_most : length keys ≤ 128
  pub in_order : IsStrictlySortedBy key_cmp keys

-- all keys are below this one
abbrev pub AreBelow : List ℕ → List (List ℕ) → Type 0
AreBelow key keys = AllByRecursion (λ k. key_cmp key k ≡ Greater) keys

-- all keys are above this one
abbrev pub AreAbove : List ℕ → List (List ℕ) → Type 0
AreAbove key keys = AllByRecursion (λ k. key_cmp key k ≡ Less) keys

-- the key stands at this place
pub record IsFoundAt (keys : List (List ℕ)) (key : List ℕ) (place : ℕ) : Type 0 where
  pub in_range : place < length keys
  pub below : AreBelow key (take place keys)
  pub here : slice_get keys place ≡ Some key

-- the key would go to this place, with lesser keys before it and greater ones from it on
pub record IsGapAt (keys : List (List ℕ)) (key : List ℕ) (place : ℕ) : Type 0 where
  pub in_range : place ≤ length keys
  pub below : AreBelow key (take place keys)
  pub above : AreAbove key (drop place keys)

-- the keys that reach the bound begin at this place
pub record IsStartAt (keys : List (List ℕ)) (from : List ℕ) (strict : Bool) (place : ℕ) : Type 0 where
  pub in_range : place ≤ length keys
  pub short : AllByRecursion (λ k. reaches from strict k ≡ false) (take place keys)
  pub first : IfSome (slice_get keys place) (λ k. reaches from strict k ≡ true)
