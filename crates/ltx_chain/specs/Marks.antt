-- The rows of one table, as two lists of rows have them.
use Rattle.std.specs.Prelude.{◌≡◌, ℕ, List}
use Rattle.ltx_model.specs.declared.rows.StoredRow.{StoredRow}
use Rattle.ltx_model.specs.StoredRows.{row_at}

-- each key of the table has the same row in both, or none in either
abbrev pub AreSameIn : ℕ → List StoredRow → List StoredRow → Type 0
AreSameIn table before now = (key : List ℕ) → row_at before (record { table = table; key = key }) ≡ row_at now (record { table = table; key = key })
