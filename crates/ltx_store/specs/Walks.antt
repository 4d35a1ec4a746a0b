-- A walk along a table's pairs: what is left of it, and what was met so far.
use Rattle.std.specs.Prelude.{◌≡◌, ℕ, Bool, true, ◌||◌, ◌++◌, List, filter}
use Rattle.std.specs.List.{AllByRecursion}
use Rattle.std.specs.Map.{keys_of}
use Rattle.std.specs.Ordering.{is_lt}
use Rattle.ltx_model.specs.Keys.{key_cmp, is_empty}
use Rattle.ltx_model.specs.declared.rows.Row.{Row}
use Rattle.ltx_model.specs.declared.writes.Look.{Look}
use Rattle.ltx_index.specs.Pairs.{IsInOrder}
use Rattle.ltx_model.specs.NextKeys.{reaches}
use Rattle.ltx_chain.specs.Versions.{Versions}
use Rattle.ltx_store.specs.Latest.{putter_at}
use Rattle.ltx_store.specs.Scans.{between, rows_seen, looks_seen}

-- the pairs below the upper end of a range, which is no bound where it is empty
abbrev pub under : List ℕ → List (List ℕ × Versions) → List (List ℕ × Versions)
under high pairs = filter (λ p. is_empty high || is_lt (key_cmp p.0 high)) pairs

-- With what is left below the upper end, the rows and the looks are those of the range.
pub record IsScanned (low high : List ℕ) (mark : ℕ) (table left : List (List ℕ × Versions)) (rows : List Row) (looks : List Look) : Type 0 where
  pub order : IsInOrder left
  pub rows_are : rows ++ rows_seen mark (under high left) ≡ rows_seen mark (between low high table)
  pub looks_are : looks ++ looks_seen mark (under high left) ≡ looks_seen mark (between low high table)

-- From the bound on, a key has a row in the table where it has one in what is left.
pub record HasPassed (from : List ℕ) (strict : Bool) (table left : List (List ℕ × Versions)) : Type 0 where
  pub order : IsInOrder left
  pub reached : AllByRecursion (λ k. reaches from strict k ≡ true) (keys_of left)
  pub same : (key : List ℕ) → reaches from strict key ≡ true → putter_at table key ≡ putter_at left key
