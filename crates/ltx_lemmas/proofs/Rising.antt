-- Rows stay in strictly rising order of their keys.
use Rattle.std.proofs.Common.{◌≡◌, ℕ, List, [], ◌∷◌}
use Rattle.ltx_model.specs.declared.commands.Op.{Op}
use Rattle.ltx_model.specs.declared.commands.Op.TheVariants.{Get, Scan, Put, Del}
use Rattle.ltx_model.specs.declared.rows.StoredRow.{StoredRow}
use Rattle.ltx_model.specs.Keys.{Cell, IsRising}
use Rattle.ltx_model.specs.StoredRows.{cell_of, row_at}
use Rattle.ltx_model.specs.Operations.{Transaction, operations}
use Rattle.ltx_model.specs.Rows.{rows_after, rows_after_all, rows_after_transaction, run}
use Rattle.ltx_model.proofs.Rising.{rising_put, rising_filter, same_items}

pub rising_after : (n : ℕ) (rows : List StoredRow) (op : Op) → IsRising cell_of rows → IsRising cell_of (rows_after n rows op)
rising_after n rows (Get table key) rising = rising
rising_after n rows (Scan table low high) rising = rising
rising_after n rows (Put table key value) rising = rising_put cell_of _ rows rising
rising_after n rows (Del table key) rising = rising_filter cell_of _ rows rising

pub rising_after_all : (n : ℕ) (rows : List StoredRow) (ops : List Op) → IsRising cell_of rows → IsRising cell_of (rows_after_all n rows ops)
rising_after_all n rows [] rising = rising
rising_after_all n rows (op ∷ ops) rising = rising_after_all n (rows_after n rows op) ops (rising_after n rows op rising)

pub rising_transaction : (rows : List StoredRow) (t : Transaction) → IsRising cell_of rows → IsRising cell_of (rows_after_transaction rows t)
rising_transaction rows t rising = rising_after_all t.number rows (operations t) rising

pub rising_run : (rows : List StoredRow) (ts : List Transaction) → IsRising cell_of rows → IsRising cell_of (run rows ts)
unfolding run
rising_run rows [] rising = rising
rising_run rows (t ∷ ts) rising = rising_run (rows_after_transaction rows t) ts (rising_transaction rows t rising)

pub same_rows : (xs ys : List StoredRow) → IsRising cell_of xs → IsRising cell_of ys → ((q : Cell) → row_at xs q ≡ row_at ys q) → xs ≡ ys
same_rows xs ys rx ry h = same_items cell_of xs ys rx ry h
