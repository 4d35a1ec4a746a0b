-- The latest rows of a table's pairs: who wrote a key's row, and which key with a row comes next.
use Rattle.std.specs.Prelude.{◌≡◌, ℕ, Bool, true, List, Option, Some, None, option_map}
use Rattle.std.specs.declared.cmp.Ordering.TheVariants.{Less}
use Rattle.ltx_model.specs.Keys.{key_cmp}
use Rattle.ltx_index.specs.Pairs.{value_at}
use Rattle.ltx_model.specs.NextKeys.{reaches}
use Rattle.ltx_chain.specs.declared.chain.Version.{Version}
use Rattle.ltx_chain.specs.Versions.{Versions, latest}
use Rattle.ltx_store.specs.Kept.{items_of}

-- the writer of a version that puts a value
abbrev pub putter : Option Version → Option ℕ
putter None = None
putter (Some v) = option_map (λ value. v.writer) v.put

-- the writer of a key's latest row
abbrev pub putter_at : List (List ℕ × Versions) → List ℕ → Option ℕ
putter_at pairs key = putter (latest (items_of (value_at pairs key)))

-- the least key from the bound on that has a row, and the row's writer
pub record IsNextPut (pairs : List (List ℕ × Versions)) (from : List ℕ) (strict : Bool) (key : List ℕ) (writer : ℕ) : Type 0 where
  pub within : reaches from strict key ≡ true
  pub written : putter_at pairs key ≡ Some writer
  pub least : (other : List ℕ) → reaches from strict other ≡ true → key_cmp other key ≡ Less → putter_at pairs other ≡ None

-- no key from the bound on has a row
abbrev pub HasNoNextPut : List (List ℕ × Versions) → List ℕ → Bool → Type 0
HasNoNextPut pairs from strict = (key : List ℕ) → reaches from strict key ≡ true → putter_at pairs key ≡ None
