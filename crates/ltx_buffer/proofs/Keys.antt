-- The own write of a key tells what the transaction's operations left there.
use Rattle.std.proofs.Common.{◌≡◌, ℕ, Bool, true, false, cond, ◌||◌, List, [], ◌∷◌, Option, Some, None, is_some, refl, sym, ap, subst, ◌∙◌}
use Rattle.std.specs.List.{list_any}
use Rattle.ltx_model.specs.declared.commands.Op.{Op}
use Rattle.ltx_model.specs.declared.rows.StoredRow.{StoredRow}
use Rattle.ltx_model.specs.declared.writes.Write.{Write}
use Rattle.ltx_model.specs.Keys.{Cell, same_cell, IsRising}
use Rattle.ltx_model.specs.StoredRows.{cell_of, row_at}
use Rattle.ltx_model.specs.Operations.{cell_of_write, is_write_at, writes_at, writes_key, write_of, put_write, writes_after, writes_of}
use Rattle.ltx_model.specs.Rows.{rows_after_all, rows_after_put, rows_after_writes}
use Rattle.ltx_model.proofs.ItemsAt.{item_at-put}
use Rattle.ltx_model.proofs.RowsAt.{row_at-put, row_at-without}
use Rattle.ltx_model.proofs.CellOrder.{same_cell_same}
use Rattle.ltx_model.proofs.Rising.{item_at-above}
use Rattle.ltx_lemmas.proofs.LastWrites.{rising_writes, last_writes_give}
use Rattle.ltx_buffer.specs.Own.{write_at, row_under}

or_join : (a b c : Bool) → ((b || a) || c) ≡ (a || (b || c))
or_join true true c = refl
or_join true false c = refl
or_join false true c = refl
or_join false false c = refl

some_put : (q : Cell) (o : Option Write) (ws : List Write) → is_some (write_at (put_write o ws) q) ≡ (is_write_at q o || is_some (write_at ws q))
some_put q None ws = refl
some_put q (Some w) ws = ap is_some (item_at-put cell_of_write w ws q) ∙ by_test (same_cell (cell_of_write w) q) where
  by_test : (b : Bool) → is_some (cond b (Some w) (write_at ws q)) ≡ (b || is_some (write_at ws q))
  by_test true = refl
  by_test false = refl

written_after : (q : Cell) (ws : List Write) (ops : List Op) → is_some (write_at (writes_after ws ops) q) ≡ (is_some (write_at ws q) || list_any (writes_at q) ops)
written_after q ws [] = or_nothing (is_some (write_at ws q)) where
  or_nothing : (b : Bool) → b ≡ (b || false)
  or_nothing true = refl
  or_nothing false = refl
written_after q ws (op ∷ ops) =
    written_after q (put_write (write_of op) ws) ops ∙ ap (λ b. b || list_any (writes_at q) ops) (some_put q (write_of op) ws)
    ∙ or_join (is_some (write_at ws q)) (writes_at q op) (list_any (writes_at q) ops)

-- A key has an own write exactly where an operation wrote it.
pub is_own : (ops : List Op) (q : Cell) → is_some (write_at (writes_of ops) q) ≡ writes_key ops q
is_own ops q = written_after q [] ops

-- the row of a key after one write of it
row_once : (tx : ℕ) (rows : List StoredRow) (w : Write) (q : Cell) (put : Option (List ℕ)) → w.put ≡ put
    → row_at (rows_after_put tx rows (cell_of_write w) put) q ≡ cond (same_cell (cell_of_write w) q) (row_under tx (Some w) None) (row_at rows q)
row_once tx rows w q None e = row_at-without rows (cell_of_write w) q ∙ rw e refl
row_once tx rows w q (Some value) e = row_at-put (record { table = w.table; key = w.key; value = value; writer = tx }) rows q ∙ rw e refl

row_after_writes : (tx : ℕ) (rows : List StoredRow) (ws : List Write) (q : Cell) → IsRising cell_of_write ws → row_at (rows_after_writes tx rows ws) q ≡ row_under tx (write_at ws q) (row_at rows q)
row_after_writes tx rows [] q rising = refl
row_after_writes tx rows (w ∷ ws) q rising =
    row_after_writes tx (rows_after_put tx rows (cell_of_write w) w.put) ws q rising.1 ∙ by_test (same_cell (cell_of_write w) q) refl where
      none : same_cell (cell_of_write w) q ≡ true → write_at ws q ≡ None
      none e = subst (λ c. write_at ws c ≡ None) (same_cell_same (cell_of_write w) q e) (item_at-above cell_of_write (cell_of_write w) ws rising.0)

      by_test : (b : Bool) → same_cell (cell_of_write w) q ≡ b
          → row_under tx (write_at ws q) (row_at (rows_after_put tx rows (cell_of_write w) w.put) q) ≡ row_under tx (cond b (Some w) (write_at ws q)) (row_at rows q)
      by_test true e =
          ap (λ o. row_under tx o (row_at (rows_after_put tx rows (cell_of_write w) w.put) q)) (none e)
          ∙ row_once tx rows w q w.put refl ∙ ap (λ b. cond b (row_under tx (Some w) None) (row_at rows q)) e
      by_test false e = ap (row_under tx (write_at ws q)) (row_once tx rows w q w.put refl ∙ ap (λ b. cond b (row_under tx (Some w) None) (row_at rows q)) e)

-- The row of a key after operations is what its own write puts, or none where it deletes, or without one the row before them.
pub own_row : (tx : ℕ) (rows : List StoredRow) (ops : List Op) (q : Cell) → IsRising cell_of rows → row_at (rows_after_all tx rows ops) q ≡ row_under tx (write_at (writes_of ops) q) (row_at rows q)
own_row tx rows ops q rising = ap (λ rs. row_at rs q) (sym (last_writes_give tx rows ops rising)) ∙ row_after_writes tx rows (writes_of ops) q (rising_writes [] ops tt)
