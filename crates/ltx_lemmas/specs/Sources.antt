-- Where rows come from.
use Rattle.std.specs.Prelude.{◌≡◌, ◌⊎◌, true, List, [], Some, Contains}
use Rattle.ltx_model.specs.declared.rows.StoredRow.{StoredRow}
use Rattle.ltx_model.specs.Keys.{Cell}
use Rattle.ltx_model.specs.StoredRows.{row_at}
use Rattle.ltx_model.specs.Operations.{Transaction, operations, writes_key}
use Rattle.ltx_model.specs.Rows.{rows_after_all}

-- The row of a key is what a transaction among these wrote last there.
pub record IsWrittenBy (ts : List Transaction) (q : Cell) (row : StoredRow) : Type 0 where
  pub tx : Transaction
  pub here : Contains ts tx
  pub writes : writes_key (operations tx) q ≡ true
  pub last : row_at (rows_after_all tx.number [] (operations tx)) q ≡ Some row
  pub writer : row.writer ≡ tx.number

-- each row is the base's row of its key, or is what a transaction among these wrote last there
abbrev pub AreSourced : List StoredRow → List Transaction → List StoredRow → Type 0
AreSourced base ts rows = (q : Cell) (row : StoredRow) → row_at rows q ≡ Some row → (row_at base q ≡ Some row) ⊎ IsWrittenBy ts q row
