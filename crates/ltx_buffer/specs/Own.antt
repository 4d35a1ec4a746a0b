-- A transaction's own writes, and a scan's rows with them over it.
use Rattle.std.specs.Prelude.{ℕ, Bool, ◌==◌, ◌&&◌, not, List, [], ◌∷◌, map, filter, Option, Some, None, option_map}
use Rattle.std.specs.List.{find}
use Rattle.ltx_model.specs.declared.rows.Row.{Row}
use Rattle.ltx_model.specs.declared.rows.StoredRow.{StoredRow}
use Rattle.ltx_model.specs.declared.writes.Write.{Write}
use Rattle.ltx_model.specs.Keys.{Cell, same_cell, in_range, put_in_order}
use Rattle.ltx_model.specs.Operations.{cell_of_write}

-- The writes of a transaction, of each key the last one, in order of table and key, and how many more can be noted without taking memory.
pub record Own : Type 0 where
  pub writes : List Write
  pub room : ℕ

-- the write of a key, if there is one
abbrev pub write_at : List Write → Cell → Option Write
write_at writes cell = find (λ w. same_cell (cell_of_write w) cell) writes

-- the row of a key under the own write of it, if there is one
abbrev pub row_under : ℕ → Option Write → Option StoredRow → Option StoredRow
row_under tx None row = row
row_under tx (Some w) row = option_map (λ value. record { table = w.table; key = w.key; value = value; writer = tx }) w.put

-- where a row of a scan of this table stands
abbrev pub cell_in : ℕ → Row → Cell
cell_in table row = record { table = table; key = row.key }

-- the table's rows after a value is put at a key of it, or the key is deleted
abbrev pub rows_with : ℕ → List Row → List ℕ → Option (List ℕ) → List Row
rows_with table rows key None = filter (λ row. not (same_cell (cell_in table row) (record { table = table; key = key }))) rows
rows_with table rows key (Some value) = put_in_order (cell_in table) (record { key = key; value = value }) rows

-- the table's rows after writes of its keys
abbrev pub rows_under : ℕ → List Row → List Write → List Row
rows_under table rows [] = rows
rows_under table rows (w ∷ ws) = rows_under table (rows_with table rows w.key w.put) ws

-- a write of a key of the table, from low on and below high
abbrev pub is_between : ℕ → List ℕ → List ℕ → Write → Bool
is_between table low high w = (w.table == table) && in_range low high w.key

-- the rows of a scan of the table from low on and below high, with the writes of that range over them
abbrev pub merged : List Write → ℕ → List ℕ → List ℕ → List Row → List Row
merged writes table low high rows = rows_under table rows (filter (is_between table low high) writes)

-- the keys of a range of the table that are written, in order
abbrev pub keys_between : List Write → ℕ → List ℕ → List ℕ → List (List ℕ)
keys_between writes table low high = map (λ w. w.key) (filter (is_between table low high) writes)
