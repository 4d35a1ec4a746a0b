-- Stored rows: the key of the table at which each stands, and the row of a key.
use Rattle.std.specs.Prelude.{ℕ, List, Option, option_map}
use Rattle.std.specs.List.{find}
use Rattle.ltx_model.specs.declared.rows.StoredRow.{StoredRow}
use Rattle.ltx_model.specs.Keys.{Cell, same_cell}

-- where a row stands
abbrev pub cell_of : StoredRow → Cell
cell_of row = record { table = row.table; key = row.key }

-- the row of a key
abbrev pub row_at : List StoredRow → Cell → Option StoredRow
row_at rows cell = find (λ row. same_cell (cell_of row) cell) rows

-- the number of the transaction that wrote the key's row
abbrev pub writer_at : List StoredRow → Cell → Option ℕ
writer_at rows cell = option_map (λ row. row.writer) (row_at rows cell)
