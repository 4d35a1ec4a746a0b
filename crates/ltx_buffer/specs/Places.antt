-- Places among writes in rising order of their keys.
use Rattle.std.specs.Prelude.{◌≡◌, ℕ, ◌+◌, ◌<◌, ◌≤◌, Bool, false, not, List, [], ◌∷◌, length, take, drop, filter, slice_index_or, if◌then◌else◌, filter_map, Option, option_map}
use Rattle.std.specs.List.{AllByRecursion}
use Rattle.std.specs.Ordering.{is_lt, is_eq}
use Rattle.std.specs.declared.cmp.Ordering.TheVariants.{Equal, Greater}
use Rattle.ltx_model.specs.declared.rows.Row.{Row}
use Rattle.ltx_model.specs.declared.writes.Write.{Write}
use Rattle.ltx_model.specs.Keys.{Cell, key_cmp, cell_cmp, is_empty, AreAbove}
use Rattle.ltx_model.specs.Operations.{cell_of_write}

-- all writes are of keys below this one
abbrev pub AreBelow : Cell → List Write → Type 0
AreBelow cell writes = AllByRecursion (λ w. cell_cmp cell (cell_of_write w) ≡ Greater) writes

-- the key's write stands at this place, behind those of lesser keys
pub record IsFoundAt (cell : Cell) (writes : List Write) (place : ℕ) : Type 0 where
  pub within : place < length writes
  pub below : AreBelow cell (take place writes)
  pub here : (d : Write) → cell_cmp cell (cell_of_write (slice_index_or writes place d)) ≡ Equal

-- the key has no write, and one would go to this place: those of lesser keys are before it, those of greater keys from it on
pub record IsGapAt (cell : Cell) (writes : List Write) (place : ℕ) : Type 0 where
  pub within : place ≤ length writes
  pub below : AreBelow cell (take place writes)
  pub above : AreAbove cell_of_write cell (drop place writes)

-- the write is of a key below this one
abbrev pub is_below : Cell → Write → Bool
is_below cell w = is_lt (cell_cmp (cell_of_write w) cell)

-- the writes below a key end at this place
pub record IsSplitAt (cell : Cell) (writes : List Write) (place : ℕ) : Type 0 where
  pub within : place ≤ length writes
  pub below : take place writes ≡ filter (is_below cell) writes
  pub above : drop place writes ≡ filter (λ w. not (is_below cell w)) writes

-- where a range of a table ends: at high, or behind the table where high is empty
abbrev pub end_of : ℕ → List ℕ → Cell
end_of table high = if is_empty high then record { table = table + 1; key = [] } else record { table = table; key = high }

-- where a write of this table stands
abbrev pub key_in : ℕ → Write → Cell
key_in table w = record { table = table; key = w.key }

-- the row that a write puts, if it puts one
abbrev pub row_put : Write → Option Row
row_put w = option_map (λ value. record { key = w.key; value = value }) w.put

-- the rows that writes put
abbrev pub rows_put : List Write → List Row
rows_put writes = filter_map row_put writes

-- the first write is of this key
abbrev pub begins_with : List Write → List ℕ → Bool
begins_with [] key = false
begins_with (w ∷ ws) key = is_eq (key_cmp w.key key)
