-- The row of a key after a row is put, or rows are taken out.
use Rattle.std.proofs.Common.{◌≡◌, Bool, true, false, cond, not, List, Some, None, refl, sym, ap, ◌∙◌}
use Rattle.std.specs.List.{filter}
use Rattle.ltx_model.specs.declared.rows.StoredRow.{StoredRow}
use Rattle.ltx_model.specs.Keys.{Cell, same_cell, put_in_order}
use Rattle.ltx_model.specs.StoredRows.{cell_of, row_at}
use Rattle.ltx_model.specs.Rows.{without}
use Rattle.ltx_model.proofs.CellOrder.{same_cell_symm}
use Rattle.ltx_model.proofs.ItemsAt.{item_at-put, item_at-filter, item_at-is}

pub row_at-put : (x : StoredRow) (rows : List StoredRow) (q : Cell) → row_at (put_in_order cell_of x rows) q ≡ cond (same_cell (cell_of x) q) (Some x) (row_at rows q)
row_at-put x rows q = item_at-put cell_of x rows q

cond_flip : {A : Type 0} (b : Bool) (x y : A) → cond (not b) x y ≡ cond b y x
cond_flip true x y = refl
cond_flip false x y = refl

pub row_at-without : (rows : List StoredRow) (c q : Cell) → row_at (without rows c) q ≡ cond (same_cell c q) None (row_at rows q)
row_at-without rows c q = item_at-filter cell_of (λ d. not (same_cell d c)) rows q ∙ cond_flip (same_cell q c) (row_at rows q) None ∙ ap (λ b. cond b None (row_at rows q)) (turned (same_cell c q) refl) where
  turned : (b : Bool) → same_cell c q ≡ b → same_cell q c ≡ same_cell c q
  turned b e = same_cell_symm c q b e ∙ sym e

pub row_at-filter : (test : Cell → Bool) (rows : List StoredRow) (q : Cell) → row_at (filter (λ row. test (cell_of row)) rows) q ≡ cond (test q) (row_at rows q) None
row_at-filter test rows q = item_at-filter cell_of test rows q

pub row_at-is : (rows : List StoredRow) (q : Cell) (row : StoredRow) → row_at rows q ≡ Some row → cell_of row ≡ q
row_at-is rows q row e = item_at-is cell_of rows q row e
