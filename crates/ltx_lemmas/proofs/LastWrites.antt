-- The last write of each key gives the rows that all writes give.
use Rattle.std.proofs.Common.{◌≡◌, ℕ, Bool, true, false, cond, List, [], ◌∷◌, Option, Some, None, refl, sym, ap, ◌∙◌, subst}
use Rattle.ltx_model.specs.declared.commands.Op.{Op}
use Rattle.ltx_model.specs.declared.commands.Op.TheVariants.{Get, Scan, Put, Del}
use Rattle.ltx_model.specs.declared.rows.StoredRow.{StoredRow}
use Rattle.ltx_model.specs.declared.writes.Write.{Write}
use Rattle.ltx_model.specs.Keys.{Cell, same_cell, put_in_order, IsRising, item_at}
use Rattle.ltx_model.specs.StoredRows.{cell_of, row_at}
use Rattle.ltx_model.specs.Operations.{Transaction, operations, write_of, cell_of_write, put_write, writes_after, writes_of}
use Rattle.ltx_model.specs.Rows.{rows_after, rows_after_all, rows_after_transaction, run, rows_after_put, rows_after_writes, rows_after_last_writes}
use Rattle.ltx_model.proofs.ItemsAt.{item_at-put}
use Rattle.ltx_model.proofs.RowsAt.{row_at-put, row_at-without}
use Rattle.ltx_model.proofs.CellOrder.{same_cell_same}
use Rattle.ltx_lemmas.proofs.Rising.{rising_after_all, rising_transaction, same_rows}
use Rattle.ltx_model.proofs.Rising.{item_at-above, rising_put, rising_filter}

-- what a key's row is after the write of it, if there is one
abbrev put_row : ℕ → Cell → Option (List ℕ) → Option StoredRow
put_row n c None = None
put_row n c (Some value) = Some (record { table = c.table; key = c.key; value = value; writer = n })

abbrev row_by : ℕ → Option Write → Option StoredRow → Option StoredRow
row_by n None row = row
row_by n (Some w) row = put_row n (cell_of_write w) w.put

-- one write
row_at-put_once : (n : ℕ) (rows : List StoredRow) (c : Cell) (put : Option (List ℕ)) (q : Cell) → row_at (rows_after_put n rows c put) q ≡ cond (same_cell c q) (put_row n c put) (row_at rows q)
row_at-put_once n rows c None q = row_at-without rows c q
row_at-put_once n rows c (Some value) q = row_at-put (record { table = c.table; key = c.key; value = value; writer = n }) rows q

rising_put_once : (n : ℕ) (rows : List StoredRow) (c : Cell) (put : Option (List ℕ)) → IsRising cell_of rows → IsRising cell_of (rows_after_put n rows c put)
rising_put_once n rows c None rising = rising_filter cell_of _ rows rising
rising_put_once n rows c (Some value) rising = rising_put cell_of _ rows rising

pub rising_after_writes : (n : ℕ) (rows : List StoredRow) (ws : List Write) → IsRising cell_of rows → IsRising cell_of (rows_after_writes n rows ws)
rising_after_writes n rows [] rising = rising
rising_after_writes n rows (w ∷ ws) rising = rising_after_writes n (rows_after_put n rows (cell_of_write w) w.put) ws (rising_put_once n rows (cell_of_write w) w.put rising)

-- writes of different keys, one after another
row_at-writes : (n : ℕ) (rows : List StoredRow) (ws : List Write) (q : Cell) → IsRising cell_of_write ws → row_at (rows_after_writes n rows ws) q ≡ row_by n (item_at cell_of_write ws q) (row_at rows q)
row_at-writes n rows [] q rising = refl
row_at-writes n rows (w ∷ ws) q rising =
    row_at-writes n (rows_after_put n rows (cell_of_write w) w.put) ws q rising.1 ∙ by_test (same_cell (cell_of_write w) q) refl where
      none : same_cell (cell_of_write w) q ≡ true → item_at cell_of_write ws q ≡ None
      none e = subst (λ c. item_at cell_of_write ws c ≡ None) (same_cell_same (cell_of_write w) q e) (item_at-above cell_of_write (cell_of_write w) ws rising.0)

      by_test : (b : Bool) → same_cell (cell_of_write w) q ≡ b
          → row_by n (item_at cell_of_write ws q) (row_at (rows_after_put n rows (cell_of_write w) w.put) q) ≡ row_by n (cond b (Some w) (item_at cell_of_write ws q)) (row_at rows q)
      by_test true e =
          ap (λ o. row_by n o (row_at (rows_after_put n rows (cell_of_write w) w.put) q)) (none e)
          ∙ row_at-put_once n rows (cell_of_write w) w.put q
          ∙ ap (λ b. cond b (put_row n (cell_of_write w) w.put) (row_at rows q)) e
      by_test false e =
          ap (row_by n (item_at cell_of_write ws q)) (row_at-put_once n rows (cell_of_write w) w.put q ∙ ap (λ b. cond b (put_row n (cell_of_write w) w.put) (row_at rows q)) e)

-- all operations, one after another
row_by_put : (n : ℕ) (w : Write) (ws : List Write) (q : Cell) (row : Option StoredRow) → row_by n (item_at cell_of_write (put_in_order cell_of_write w ws) q) row ≡ cond (same_cell (cell_of_write w) q) (put_row n (cell_of_write w) w.put) (row_by n (item_at cell_of_write ws q) row)
row_by_put n w ws q row = ap (λ o. row_by n o row) (item_at-put cell_of_write w ws q) ∙ by_test (same_cell (cell_of_write w) q) where
  by_test : (b : Bool) → row_by n (cond b (Some w) (item_at cell_of_write ws q)) row ≡ cond b (put_row n (cell_of_write w) w.put) (row_by n (item_at cell_of_write ws q) row)
  by_test true = refl
  by_test false = refl

row_at-op : (n : ℕ) (base rows : List StoredRow) (ws : List Write) (op : Op) (q : Cell) → row_at rows q ≡ row_by n (item_at cell_of_write ws q) (row_at base q)
    → row_at (rows_after n rows op) q ≡ row_by n (item_at cell_of_write (put_write (write_of op) ws) q) (row_at base q)
row_at-op n base rows ws (Get table key) q e = e
row_at-op n base rows ws (Scan table low high) q e = e
row_at-op n base rows ws (Put table key value) q e =
    let w : Write = record { table = table; key = key; put = Some value } in
    row_at-put (record { table = table; key = key; value = value; writer = n }) rows q
    ∙ ap (cond (same_cell (cell_of_write w) q) (put_row n (cell_of_write w) (Some value))) e ∙ sym (row_by_put n w ws q (row_at base q))
row_at-op n base rows ws (Del table key) q e =
    let w : Write = record { table = table; key = key; put = None } in
    row_at-without rows (cell_of_write w) q
    ∙ ap (cond (same_cell (cell_of_write w) q) (put_row n (cell_of_write w) None)) e ∙ sym (row_by_put n w ws q (row_at base q))

row_at-ops : (n : ℕ) (base rows : List StoredRow) (ws : List Write) (ops : List Op) (q : Cell) → row_at rows q ≡ row_by n (item_at cell_of_write ws q) (row_at base q)
    → row_at (rows_after_all n rows ops) q ≡ row_by n (item_at cell_of_write (writes_after ws ops) q) (row_at base q)
row_at-ops n base rows ws [] q e = e
row_at-ops n base rows ws (op ∷ ops) q e = row_at-ops n base (rows_after n rows op) (put_write (write_of op) ws) ops q (row_at-op n base rows ws op q e)

-- the writes of operations stand in rising order of their keys
rising_write : (o : Option Write) (ws : List Write) → IsRising cell_of_write ws → IsRising cell_of_write (put_write o ws)
rising_write None ws rising = rising
rising_write (Some w) ws rising = rising_put cell_of_write w ws rising

pub rising_writes : (ws : List Write) (ops : List Op) → IsRising cell_of_write ws → IsRising cell_of_write (writes_after ws ops)
rising_writes ws [] rising = rising
rising_writes ws (op ∷ ops) rising = rising_writes (put_write (write_of op) ws) ops (rising_write (write_of op) ws rising)

-- The last writes of a transaction give the rows that its operations give.
pub last_writes_give : (n : ℕ) (rows : List StoredRow) (ops : List Op) → IsRising cell_of rows → rows_after_writes n rows (writes_of ops) ≡ rows_after_all n rows ops
last_writes_give n rows ops rising =
    same_rows (rows_after_writes n rows (writes_of ops)) (rows_after_all n rows ops) (rising_after_writes n rows (writes_of ops) rising) (rising_after_all n rows ops rising)
    (λ q. row_at-writes n rows (writes_of ops) q (rising_writes [] ops tt) ∙ sym (row_at-ops n rows rows [] ops q refl))

-- so those of transactions, one after another, give the rows of their run
pub last_writes_run : (rows : List StoredRow) (ts : List Transaction) → IsRising cell_of rows → rows_after_last_writes rows ts ≡ run rows ts
unfolding run
last_writes_run rows [] rising = refl
last_writes_run rows (t ∷ ts) rising =
    ap (λ r. rows_after_last_writes r ts) (last_writes_give t.number rows (operations t) rising) ∙ last_writes_run (rows_after_transaction rows t) ts (rising_transaction rows t rising)
