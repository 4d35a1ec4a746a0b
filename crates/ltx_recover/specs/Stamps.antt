-- Writes with the numbers of their transactions, in the order in which they count, and the rows that they give.
use Rattle.std.specs.Prelude.{◌≡◌, ℕ, Bool, true, false, List, [], ◌∷◌, ◌++◌, map, Option, Some, None}
use Rattle.std.specs.Ordering.{is_lt}
use Rattle.ltx_model.specs.declared.rows.StoredRow.{StoredRow}
use Rattle.ltx_model.specs.declared.writes.Write.{Write}
use Rattle.ltx_model.specs.Keys.{Cell, cell_cmp, same_cell}
use Rattle.ltx_model.specs.Operations.{cell_of_write}
use Rattle.ltx_model.specs.Rows.{rows_after_put}
use Rattle.ltx_model.specs.Played.{Played, PlayedSlot, PlayedCommit}
use Rattle.ltx_recover.specs.declared.stamp.Stamp.{Stamp}

-- a write and the number of its transaction
pub record Stamped : Type 0 where
  pub writer : ℕ
  pub write : Write

abbrev pub stamped_of : Stamp → Stamped
stamped_of s = record { writer = s.writer; write = s.write.now }

abbrev pub stamped_in : List Stamp → List Stamped
stamped_in ss = map stamped_of ss

-- the writes of a transaction
abbrev pub stamped_by : ℕ → List Write → List Stamped
stamped_by n ws = map (λ w. record { writer = n; write = w }) ws

-- the writes of the committed members, in list order
abbrev pub stamped_all : List Played → List Stamped
stamped_all [] = []
stamped_all (PlayedSlot n ∷ ps) = stamped_all ps
stamped_all (PlayedCommit n ws ∷ ps) = stamped_by n ws ++ stamped_all ps

-- the key of a table that is written
abbrev pub cell_at : Stamped → Cell
cell_at s = cell_of_write s.write

-- the rows after a write
abbrev pub rows_with : List StoredRow → Stamped → List StoredRow
rows_with rows s = rows_after_put s.writer rows (cell_at s) s.write.put

-- the rows after writes, one after another
abbrev pub rows_with_all : List StoredRow → List Stamped → List StoredRow
rows_with_all rows [] = rows
rows_with_all rows (s ∷ ss) = rows_with_all (rows_with rows s) ss

-- the row that a write leaves, unless it deletes
abbrev pub row_put : ℕ → Cell → Option (List ℕ) → List StoredRow
row_put n cell None = []
row_put n cell (Some value) = record { table = cell.table; key = cell.key; value = value; writer = n } ∷ []

abbrev pub row_left : Stamped → List StoredRow
row_left s = row_put s.writer (cell_at s) s.write.put

-- no row where the write does not count
abbrev pub row_unless : Bool → Stamped → List StoredRow
row_unless true s = []
row_unless false s = row_left s

-- one does not come behind the next, by table and key
abbrev pub AreInCellOrder : List Stamped → Type 0
AreInCellOrder [] = Unit {0}
AreInCellOrder (s ∷ []) = Unit {0}
AreInCellOrder (s ∷ (t ∷ ss)) = (is_lt (cell_cmp (cell_at t) (cell_at s)) ≡ false) × AreInCellOrder (t ∷ ss)

-- the first of them is of this cell
abbrev pub begins_at : Cell → List Stamped → Bool
begins_at cell [] = false
begins_at cell (s ∷ ss) = same_cell (cell_at s) cell
