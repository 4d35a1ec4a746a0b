-- The last write of a key: who made it, and whether it deleted the key.
use Rattle.std.specs.Prelude.{◌≡◌, ◌⊎◌, ℕ, Bool, true, false, List, [], ◌∷◌, ◌++◌, Option, Some, None, option_map, is_none}
use Rattle.std.specs.List.{find, AllByRecursion}
use Rattle.ltx_model.specs.declared.rows.StoredRow.{StoredRow}
use Rattle.ltx_model.specs.declared.writes.Write.{Write}
use Rattle.ltx_model.specs.Lists.{or_else}
use Rattle.ltx_model.specs.Keys.{Cell, same_cell}
use Rattle.ltx_model.specs.StoredRows.{row_at}
use Rattle.ltx_model.specs.Operations.{Transaction, operations, cell_of_write, writes_key, writes_of}

-- the number of the writer, and whether the write deleted the key
pub record LastWrite : Type 0 where
  pub writer : ℕ
  pub gone : Bool

-- the write of a key, if there is one
abbrev pub write_of_key : List Write → Cell → Option Write
write_of_key writes cell = find (λ w. same_cell (cell_of_write w) cell) writes

-- a write of the transaction with this number
abbrev pub made_by : ℕ → Write → LastWrite
made_by n w = record { writer = n; gone = is_none w.put }

-- a row of the base
abbrev pub made_before : StoredRow → LastWrite
made_before row = record { writer = row.writer; gone = false }

-- what a transaction wrote last at a key, or else the write before it
abbrev pub over : Option LastWrite → Cell → Transaction → Option LastWrite
over last cell t = or_else (option_map (made_by t.number) (write_of_key (writes_of (operations t)) cell)) last

-- the last write of a key after transactions, where this was the last one before them
abbrev pub last_write_from : Option LastWrite → Cell → List Transaction → Option LastWrite
last_write_from last cell [] = last
last_write_from last cell (t ∷ ts) = last_write_from (over last cell t) cell ts

-- the last write of a key in an order of transactions over the rows of a base: none where nobody wrote it and the base has no row of it
unfoldable pub last_write : List StoredRow → List Transaction → Cell → Option LastWrite
last_write base ts cell = last_write_from (option_map made_before (row_at base cell)) cell ts

-- The last write of the key is one of these transactions', and no later one writes it.
pub record IsWrittenLast (ts : List Transaction) (cell : Cell) (w : LastWrite) : Type 0 where
  pub front : List Transaction
  pub tx : Transaction
  pub back : List Transaction
  pub parts : ts ≡ front ++ tx ∷ back
  pub number : tx.number ≡ w.writer
  pub write : Write
  pub writes : write_of_key (writes_of (operations tx)) cell ≡ Some write
  pub deletes : is_none write.put ≡ w.gone
  pub silent : AllByRecursion (λ t. writes_key (operations t) cell ≡ false) back

-- The last write of the key is the base's row, and none of these transactions writes it.
pub record IsOfBaseRow (base : List StoredRow) (ts : List Transaction) (cell : Cell) (w : LastWrite) : Type 0 where
  pub row : StoredRow
  pub here : row_at base cell ≡ Some row
  pub number : row.writer ≡ w.writer
  pub present : w.gone ≡ false
  pub silent : AllByRecursion (λ t. writes_key (operations t) cell ≡ false) ts

-- w is the last write of the key in an order over the rows of a base
abbrev pub IsLastWrite : List StoredRow → List Transaction → Cell → LastWrite → Type 0
IsLastWrite base ts cell w = IsWrittenLast ts cell w ⊎ IsOfBaseRow base ts cell w

-- the key has no row where this is its last write: nobody wrote it, or the last write deleted it
abbrev pub IsAbsent : Option LastWrite → Type 0
IsAbsent None = Unit {0}
IsAbsent (Some w) = w.gone ≡ true
