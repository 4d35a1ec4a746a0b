-- A walk along the looks of a range and the rows that it has now, key by key.
use Rattle.std.specs.Prelude.{◌≡◌, ℕ, ◌+◌, Bool, true, false, ◌&&◌, ◌==◌, List, [], ◌∷◌, length, filter, Option, Some, None, IfSome}
use Rattle.std.specs.List.{AllByRecursion}
use Rattle.std.specs.declared.cmp.Ordering.{Ordering}
use Rattle.std.specs.declared.cmp.Ordering.TheVariants.{Less, Equal, Greater}
use Rattle.std.specs.Ordering.{is_le}
use Rattle.ltx_model.specs.declared.rows.StoredRow.{StoredRow}
use Rattle.ltx_model.specs.declared.writes.Look.{Look}
use Rattle.ltx_model.specs.declared.looked.Reach.TheVariants.{Range}
use Rattle.ltx_model.specs.Keys.{key_cmp, is_below_end}
use Rattle.ltx_model.specs.StoredRows.{writer_at}
use Rattle.ltx_model.specs.NextKeys.{reaches}
use Rattle.ltx_model.specs.Notes.{found_by, look_of}
use Rattle.ltx_validate.specs.Differences.{at, AreRisingLooks, IsOrdered, IsSame}

-- a key with its writers then and now, and the looks above it
pub record Turning : Type 0 where
  pub key : List ℕ
  pub found : Option ℕ
  pub current : Option ℕ
  pub left : List Look

-- the lesser of the keys of a look and of a row
abbrev pub turn_by : Ordering → Look → List Look → List ℕ × ℕ → Turning
turn_by Less look rest row = record { key = look.key; found = found_by look; current = None; left = rest }
turn_by Equal look rest row = record { key = look.key; found = found_by look; current = Some row.1; left = rest }
turn_by Greater look rest row = record { key = row.0; found = None; current = Some row.1; left = look ∷ rest }

-- the least key of looks and a row
abbrev pub turn_of : List Look → Option (List ℕ × ℕ) → Option Turning
turn_of [] None = None
turn_of [] (Some row) = Some (record { key = row.0; found = None; current = Some row.1; left = [] })
turn_of (look ∷ rest) None = Some (record { key = look.key; found = found_by look; current = None; left = rest })
turn_of (look ∷ rest) (Some row) = Some (turn_by (key_cmp look.key row.0) look rest row)

-- the row that comes next from a bound on is the least one below the upper end
pub record IsNextRow (rows : List StoredRow) (table : ℕ) (high from : List ℕ) (strict : Bool) (row : List ℕ × ℕ) : Type 0 where
  pub reached : reaches from strict row.0 ≡ true
  pub below : is_below_end high row.0 ≡ true
  pub written : writer_at rows (at table row.0) ≡ Some row.1
  pub least : (key : List ℕ) → reaches from strict key ≡ true → key_cmp key row.0 ≡ Less → writer_at rows (at table key) ≡ None

abbrev pub NextRow : List StoredRow → ℕ → List ℕ → List ℕ → Bool → Option (List ℕ × ℕ) → Type 0
NextRow rows table high from strict None = (key : List ℕ) → reaches from strict key ≡ true → is_below_end high key ≡ true → writer_at rows (at table key) ≡ None
NextRow rows table high from strict (Some row) = IsNextRow rows table high from strict row

-- Keys of the range that do not reach the bound have the writers that they had. The looks and the row that are left are those of the others.
pub record IsWalk (rows : List StoredRow) (table : ℕ) (low high : List ℕ) (looks : List Look) (own : List (List ℕ)) (left : List Look) (next : Option (List ℕ × ℕ)) : Type 0 where
  pub from : List ℕ
  pub strict : Bool
  pub settled : (key : List ℕ) → reaches from strict key ≡ false → IsSame rows table (Range low high looks own) key
  pub above_low : (key : List ℕ) → reaches from strict key ≡ true → is_le (key_cmp low key) ≡ true
  pub same_looks : (key : List ℕ) → reaches from strict key ≡ true → look_of left key ≡ look_of looks key
  pub left_rising : AreRisingLooks left
  pub left_reached : AllByRecursion (λ look. reaches from strict look.key ≡ true) left
  pub left_below : AllByRecursion (λ look. is_below_end high look.key ≡ true) left
  pub next_row : NextRow rows table high from strict next

-- The same where the lists of the range stand in order. The next row is one of the table.
pub record IsOnWay (rows : List StoredRow) (table : ℕ) (low high : List ℕ) (looks : List Look) (own : List (List ℕ)) (left : List Look) (next : Option (List ℕ × ℕ)) : Type 0 where
  pub next_is : IfSome next (λ row. writer_at rows (at table row.0) ≡ Some row.1)
  pub walk : IsOrdered (Range low high looks own) → IsWalk rows table low high looks own left next

-- how many rows of the table stand from a row on
abbrev pub rows_from : List StoredRow → ℕ → Option (List ℕ × ℕ) → ℕ
rows_from rows table None = 0
rows_from rows table (Some row) = length (filter (λ r. (r.table == table) && is_le (key_cmp row.0 r.key)) rows)

-- the turns that are left at most
abbrev pub turns_left : List StoredRow → ℕ → List Look → Option (List ℕ × ℕ) → ℕ
turns_left rows table left next = length left + rows_from rows table next
