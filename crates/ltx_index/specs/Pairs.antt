-- An ordered map as its list of pairs of a key and a value, in rising order of the keys.
use Rattle.std.specs.Prelude.{ℕ, Bool, Option, List, filter}
use Rattle.std.specs.List.{find}
use Rattle.std.specs.List.Sorted.{IsStrictlySortedBy}
use Rattle.std.specs.Map.{keys_of, lookup, remove_entry, set_value}
use Rattle.std.specs.BTreeMap.{insert_entry, is_at}
use Rattle.ltx_model.specs.Keys.{key_cmp}
use Rattle.ltx_model.specs.NextKeys.{reaches}

-- the pairs stand in strictly rising order of their keys
abbrev pub IsInOrder : {V : Type 0} → List (List ℕ × V) → Type 0
IsInOrder pairs = IsStrictlySortedBy key_cmp (keys_of pairs)

-- the value that stands at the key
abbrev pub value_at : {V : Type 0} → List (List ℕ × V) → List ℕ → Option V
value_at pairs key = lookup (is_at (key_cmp key)) pairs

-- the pairs with this value at the key, and all others as before
abbrev pub with_pair : {V : Type 0} → List (List ℕ × V) → List ℕ → V → List (List ℕ × V)
with_pair pairs key value = insert_entry key_cmp pairs key value

-- the pairs with this value at the key where one stands there, and all others as before
abbrev pub with_value : {V : Type 0} → List (List ℕ × V) → List ℕ → V → List (List ℕ × V)
with_value pairs key value = set_value (is_at (key_cmp key)) pairs value

-- the pairs without the key's, and all others as before
abbrev pub without_key : {V : Type 0} → List (List ℕ × V) → List ℕ → List (List ℕ × V)
without_key pairs key = remove_entry (is_at (key_cmp key)) pairs

-- the pair with the least key that reaches the bound: the keys rise, so it is the first one
abbrev pub first_from : {V : Type 0} → List (List ℕ × V) → List ℕ → Bool → Option (List ℕ × V)
first_from pairs from strict = find (λ pair. reaches from strict pair.0) pairs

-- the pairs whose keys reach the bound: the last ones, since the keys rise
abbrev pub pairs_from : {V : Type 0} → List (List ℕ × V) → List ℕ → Bool → List (List ℕ × V)
pairs_from pairs from strict = filter (λ pair. reaches from strict pair.0) pairs
