-- The rows of a store, after a key gets other versions.
use Rattle.std.proofs.Common.{◌≡◌, ℕ, Bool, true, false, cond, not, List, [], ◌∷◌, Option, Some, None, option_and_then, refl, sym, ap, ◌∙◌, subst}
use Rattle.std.specs.List.{find, cons_option}
use Rattle.std.specs.declared.cmp.Ordering.{Ordering}
use Rattle.std.specs.declared.cmp.Ordering.TheVariants.{Less, Equal, Greater}
use Rattle.ltx_model.specs.declared.rows.StoredRow.{StoredRow}
use Rattle.ltx_model.specs.Keys.{Cell, cell_cmp, same_cell, put_in_order, put_at, AreAbove, IsRising}
use Rattle.ltx_model.specs.StoredRows.{cell_of, row_at}
use Rattle.ltx_model.specs.Rows.{without}
use Rattle.ltx_chain.specs.declared.chain.Version.{Version}
use Rattle.ltx_store.specs.Kept.{Kept, cell_of_kept, kept_at, row_put, row_of_version, row_by, rows_by, rows_with}
use Rattle.ltx_model.proofs.CellOrder.{same_cells, cell_itself, cell_turned, same_cell_same}
use Rattle.ltx_model.proofs.Rising.{above_later, above_same}

-- a row stands at its key
put_keeps : (c : Cell) (writer : ℕ) (p : Option (List ℕ)) (row : StoredRow) → row_put c writer p ≡ Some row → cell_of row ≡ c
put_keeps c writer None row is = cc
put_keeps c writer (Some value) row is =
    let made : StoredRow = record { table = c.table; key = c.key; value = value; writer = writer } in
    let same : row ≡ made = cc in
    ap cell_of same

version_keeps : (c : Cell) (v : Option Version) (row : StoredRow) → row_of_version c v ≡ Some row → cell_of row ≡ c
version_keeps c None row is = cc
version_keeps c (Some v) row is = put_keeps c v.writer v.put row is

module _ (see : List Version → Option Version) where
  pub row_keeps : (e : Kept) (row : StoredRow) → row_by see e ≡ Some row → cell_of row ≡ cell_of_kept e
  row_keeps e row is = version_keeps (cell_of_kept e) (see e.versions.items) row is

module _ (see : List Version → Option Version) where
  -- rows stand where their keys do
  pub rows_above : (c : Cell) (kept : List Kept) → AreAbove cell_of_kept c kept → AreAbove cell_of c (rows_by see kept)
  rows_above c [] all = tt
  rows_above c (e ∷ es) all = by_row (row_by see e) refl (rows_above c es all.1) where
    by_row : (o : Option StoredRow) → row_by see e ≡ o → AreAbove cell_of c (rows_by see es) → AreAbove cell_of c (cons_option o (rows_by see es))
    by_row None is rest = rest
    by_row (Some row) is rest = (subst (λ d. cell_cmp c d ≡ Less) (sym (row_keeps see e row is)) all.0, rest)

  pub rows_rising : (kept : List Kept) → IsRising cell_of_kept kept → IsRising cell_of (rows_by see kept)
  rows_rising [] r = tt
  rows_rising (e ∷ es) r = by_row (row_by see e) refl (rows_rising es r.1) where
    by_row : (o : Option StoredRow) → row_by see e ≡ o → IsRising cell_of (rows_by see es) → IsRising cell_of (cons_option o (rows_by see es))
    by_row None is rest = rest
    by_row (Some row) is rest = (above_same cell_of _ _ (rows_by see es) (row_keeps see e row is) (rows_above (cell_of_kept e) es r.0), rest)

-- what stands above a cell, when that cell is put, taken out or looked for
pub put_above : {A : Type 0} (cell : A → Cell) (x : A) (xs : List A) → AreAbove cell (cell x) xs → put_in_order cell x xs ≡ x ∷ xs
put_above cell x [] all = refl
put_above cell x (y ∷ ys) all = rw all.0 refl

without_above : (c : Cell) (rows : List StoredRow) → AreAbove cell_of c rows → without rows c ≡ rows
without_above c [] all = refl
without_above c (y ∷ ys) all = rw (cell_turned c (cell_of y) Less all.0) (ap (λ l. y ∷ l) (without_above c ys all.1))

pub find_above : {A : Type 0} (cell : A → Cell) (c : Cell) (xs : List A) → AreAbove cell c xs → find (λ x. same_cell (cell x) c) xs ≡ None
find_above cell c [] all = refl
find_above cell c (y ∷ ys) all = rw (cell_turned c (cell y) Less all.0) (find_above cell c ys all.1)

-- the row of a key
module _ (see : List Version → Option Version) where
  row_by_both : (e : Kept) (es : List Kept) (c : Cell) (o : Option StoredRow) (b : Bool) → AreAbove cell_of_kept (cell_of_kept e) es → row_by see e ≡ o → same_cell (cell_of_kept e) c ≡ b
      → row_at (rows_by see es) c ≡ option_and_then (row_by see) (kept_at es c)
      → row_at (cons_option o (rows_by see es)) c ≡ option_and_then (row_by see) (cond b (Some e) (kept_at es c))
  row_by_both e es c None true all row same rest = find_above cell_of c (rows_by see es) (above_same cell_of _ _ (rows_by see es) (sym (same_cell_same _ _ same)) (rows_above see (cell_of_kept e) es all)) ∙ sym row
  row_by_both e es c None false all row same rest = rest
  row_by_both e es c (Some r) true all row same rest =
      subst (λ d. cond (same_cell d c) (Some r) (row_at (rows_by see es) c) ≡ row_by see e) (sym (row_keeps see e r row)) (rw same (sym row))
  row_by_both e es c (Some r) false all row same rest =
      subst (λ d. cond (same_cell d c) (Some r) (row_at (rows_by see es) c) ≡ option_and_then (row_by see) (kept_at es c)) (sym (row_keeps see e r row)) (rw same rest)

module _ (see : List Version → Option Version) where
  pub row_at-rows : (kept : List Kept) (c : Cell) → IsRising cell_of_kept kept → row_at (rows_by see kept) c ≡ option_and_then (row_by see) (kept_at kept c)
  row_at-rows [] c r = refl
  row_at-rows (e ∷ es) c r = row_by_both see e es c (row_by see e) (same_cell (cell_of_kept e) c) r.0 refl refl (row_at-rows es c r.1)

-- a row, or none, at a cell with rows above it
with_above : (c : Cell) (o : Option StoredRow) (rows : List StoredRow) → ((row : StoredRow) → o ≡ Some row → cell_of row ≡ c) → AreAbove cell_of c rows → rows_with c o rows ≡ cons_option o rows
with_above c None rows stands all = without_above c rows all
with_above c (Some row) rows stands all = put_above cell_of row rows (above_same cell_of _ _ rows (stands row refl) all)

-- at the cell of the first row
with_equal : (c : Cell) (o : Option StoredRow) (q : StoredRow) (rows : List StoredRow) → ((row : StoredRow) → o ≡ Some row → cell_of row ≡ c) → cell_of q ≡ c → AreAbove cell_of c rows
    → rows_with c o (q ∷ rows) ≡ cons_option o rows
with_equal c None q rows stands here all =
    subst (λ d. cond (not (same_cell d c)) (q ∷ without rows c) (without rows c) ≡ rows) (sym here) (rw (cell_itself c) (without_above c rows all))
with_equal c (Some row) q rows stands here all =
    let tie : cell_cmp (cell_of row) (cell_of q) ≡ Equal = subst (λ d. cell_cmp (cell_of row) d ≡ Equal) (stands row refl ∙ sym here) (cell_itself (cell_of row)) in
    rw tie refl

-- past the first row
with_greater : (c : Cell) (o : Option StoredRow) (q : StoredRow) (rows : List StoredRow) → ((row : StoredRow) → o ≡ Some row → cell_of row ≡ c) → cell_cmp c (cell_of q) ≡ Greater
    → rows_with c o (q ∷ rows) ≡ q ∷ rows_with c o rows
with_greater c None q rows stands past = rw (cell_turned c (cell_of q) Greater past) refl
with_greater c (Some row) q rows stands past =
    let after : cell_cmp (cell_of row) (cell_of q) ≡ Greater = subst (λ d. cell_cmp d (cell_of q) ≡ Greater) (sym (stands row refl)) past in
    rw after refl

-- a key with other versions, in its place
module _ (see : List Version → Option Version) where
  rows_put_by : (e y : Kept) (ys : List Kept) (o : Ordering) → cell_cmp (cell_of_kept e) (cell_of_kept y) ≡ o → IsRising cell_of_kept (y ∷ ys)
      → rows_by see (put_in_order cell_of_kept e ys) ≡ rows_with (cell_of_kept e) (row_by see e) (rows_by see ys)
      → rows_by see (put_at o e y ys (put_in_order cell_of_kept e ys)) ≡ rows_with (cell_of_kept e) (row_by see e) (rows_by see (y ∷ ys))
  rows_put_by e y ys Less is r rest =
      sym (with_above (cell_of_kept e) (row_by see e) (rows_by see (y ∷ ys)) (row_keeps see e) (rows_above see (cell_of_kept e) (y ∷ ys) (is, above_later cell_of_kept (cell_of_kept e) (cell_of_kept y) ys is r.0)))
  rows_put_by e y ys Equal is r rest = by_row (row_by see y) refl where
    here : cell_of_kept e ≡ cell_of_kept y
    here = same_cells (cell_of_kept e) (cell_of_kept y) is

    above : AreAbove cell_of (cell_of_kept e) (rows_by see ys)
    above = rows_above see (cell_of_kept e) ys (above_same cell_of_kept _ _ ys here r.0)

    by_row : (o : Option StoredRow) → row_by see y ≡ o → cons_option (row_by see e) (rows_by see ys) ≡ rows_with (cell_of_kept e) (row_by see e) (cons_option o (rows_by see ys))
    by_row None row = sym (with_above (cell_of_kept e) (row_by see e) (rows_by see ys) (row_keeps see e) above)
    by_row (Some q) row = sym (with_equal (cell_of_kept e) (row_by see e) q (rows_by see ys) (row_keeps see e) (row_keeps see y q row ∙ sym here) above)
  rows_put_by e y ys Greater is r rest = by_row (row_by see y) refl where
    by_row : (o : Option StoredRow) → row_by see y ≡ o → cons_option o (rows_by see (put_in_order cell_of_kept e ys)) ≡ rows_with (cell_of_kept e) (row_by see e) (cons_option o (rows_by see ys))
    by_row None row = rest
    by_row (Some q) row =
        ap (λ l. q ∷ l) rest
        ∙ sym (with_greater (cell_of_kept e) (row_by see e) q (rows_by see ys) (row_keeps see e) (subst (λ d. cell_cmp (cell_of_kept e) d ≡ Greater) (sym (row_keeps see y q row)) is))

module _ (see : List Version → Option Version) where
  pub rows-put : (e : Kept) (kept : List Kept) → IsRising cell_of_kept kept → rows_by see (put_in_order cell_of_kept e kept) ≡ rows_with (cell_of_kept e) (row_by see e) (rows_by see kept)
  rows-put e [] r = sym (with_above (cell_of_kept e) (row_by see e) [] (row_keeps see e) tt)
  rows-put e (y ∷ ys) r = rows_put_by see e y ys (cell_cmp (cell_of_kept e) (cell_of_kept y)) refl r (rows-put e ys r.1)

-- the keys themselves
pub kept_at-put : (e : Kept) (kept : List Kept) (c : Cell) → kept_at (put_in_order cell_of_kept e kept) c ≡ cond (same_cell (cell_of_kept e) c) (Some e) (kept_at kept c)
kept_at-put e [] c = refl
kept_at-put e (y ∷ ys) c = by_cmp (cell_cmp (cell_of_kept e) (cell_of_kept y)) refl (kept_at-put e ys c) where
  by_cmp : (o : Ordering) → cell_cmp (cell_of_kept e) (cell_of_kept y) ≡ o
      → kept_at (put_in_order cell_of_kept e ys) c ≡ cond (same_cell (cell_of_kept e) c) (Some e) (kept_at ys c)
      → kept_at (put_at o e y ys (put_in_order cell_of_kept e ys)) c ≡ cond (same_cell (cell_of_kept e) c) (Some e) (cond (same_cell (cell_of_kept y) c) (Some y) (kept_at ys c))
  by_cmp Less is rest = refl
  by_cmp Equal is rest = by_test (same_cell (cell_of_kept e) c) refl where
    by_test : (b : Bool) → same_cell (cell_of_kept e) c ≡ b → cond b (Some e) (kept_at ys c) ≡ cond b (Some e) (cond (same_cell (cell_of_kept y) c) (Some y) (kept_at ys c))
    by_test true same = refl
    by_test false same = subst (λ d. kept_at ys c ≡ cond (same_cell d c) (Some y) (kept_at ys c)) (same_cells (cell_of_kept e) (cell_of_kept y) is) (rw same refl)
  by_cmp Greater is rest = by_test (same_cell (cell_of_kept y) c) refl where
    by_test : (b : Bool) → same_cell (cell_of_kept y) c ≡ b → cond b (Some y) (kept_at (put_in_order cell_of_kept e ys) c) ≡ cond (same_cell (cell_of_kept e) c) (Some e) (cond b (Some y) (kept_at ys c))
    by_test false same = rest
    by_test true same = subst (λ d. Some y ≡ cond (same_cell (cell_of_kept e) d) (Some e) (Some y)) (same_cell_same (cell_of_kept y) c same) (rw is refl)

-- order is kept
above_put : (e : Kept) (kept : List Kept) (c : Cell) → cell_cmp c (cell_of_kept e) ≡ Less → AreAbove cell_of_kept c kept → AreAbove cell_of_kept c (put_in_order cell_of_kept e kept)
above_put e [] c less all = (less, tt)
above_put e (y ∷ ys) c less all = by_cmp (cell_cmp (cell_of_kept e) (cell_of_kept y)) (above_put e ys c less all.1) where
  by_cmp : (o : Ordering) → AreAbove cell_of_kept c (put_in_order cell_of_kept e ys) → AreAbove cell_of_kept c (put_at o e y ys (put_in_order cell_of_kept e ys))
  by_cmp Less rest = (less, all)
  by_cmp Equal rest = (less, all.1)
  by_cmp Greater rest = (all.0, rest)

pub rising_put : (e : Kept) (kept : List Kept) → IsRising cell_of_kept kept → IsRising cell_of_kept (put_in_order cell_of_kept e kept)
rising_put e [] r = (tt, tt)
rising_put e (y ∷ ys) r = by_cmp (cell_cmp (cell_of_kept e) (cell_of_kept y)) refl (rising_put e ys r.1) where
  by_cmp : (o : Ordering) → cell_cmp (cell_of_kept e) (cell_of_kept y) ≡ o → IsRising cell_of_kept (put_in_order cell_of_kept e ys) → IsRising cell_of_kept (put_at o e y ys (put_in_order cell_of_kept e ys))
  by_cmp Less is rest = ((is, above_later cell_of_kept (cell_of_kept e) (cell_of_kept y) ys is r.0), r)
  by_cmp Equal is rest = (above_same cell_of_kept (cell_of_kept e) (cell_of_kept y) ys (same_cells (cell_of_kept e) (cell_of_kept y) is) r.0, r.1)
  by_cmp Greater is rest = (above_put e ys (cell_of_kept y) (cell_turned (cell_of_kept e) (cell_of_kept y) Greater is) r.0, rest)

-- what is found at a key stands there
pub found_cell : {A : Type 0} (cell : A → Cell) (c : Cell) (xs : List A) (x : A) → find (λ y. same_cell (cell y) c) xs ≡ Some x → cell x ≡ c
found_cell cell c [] x is = cc
found_cell cell c (y ∷ ys) x is = by_test (same_cell (cell y) c) refl is (found_cell cell c ys x) where
  by_test : (b : Bool) → same_cell (cell y) c ≡ b → cond b (Some y) (find (λ z. same_cell (cell z) c) ys) ≡ Some x → (find (λ z. same_cell (cell z) c) ys ≡ Some x → cell x ≡ c) → cell x ≡ c
  by_test true same is rest = let here : y ≡ x = cc in ap cell (sym here) ∙ same_cell_same (cell y) c same
  by_test false same is rest = rest is

found_above : (d c : Cell) (rows : List StoredRow) (row : StoredRow) → row_at rows c ≡ Some row → AreAbove cell_of d rows → cell_cmp d (cell_of row) ≡ Less
found_above d c [] row is all = cc
found_above d c (y ∷ ys) row is all = by_test (same_cell (cell_of y) c) is (λ found. found_above d c ys row found all.1) where
  by_test : (b : Bool) → cond b (Some y) (row_at ys c) ≡ Some row → (row_at ys c ≡ Some row → cell_cmp d (cell_of row) ≡ Less) → cell_cmp d (cell_of row) ≡ Less
  by_test true is rest = let here : y ≡ row = cc in subst (λ z. cell_cmp d (cell_of z) ≡ Less) here all.0
  by_test false is rest = rest is

-- a row that stands there changes nothing, nor does none where none stands
pub rows_with_same : (c : Cell) (rows : List StoredRow) → IsRising cell_of rows → rows_with c (row_at rows c) rows ≡ rows
rows_with_same c [] r = refl
rows_with_same c (y ∷ ys) r = by_test (same_cell (cell_of y) c) refl (rows_with_same c ys r.1) where
  later : (o : Option StoredRow) → row_at ys c ≡ o → same_cell (cell_of y) c ≡ false → rows_with c o ys ≡ ys → rows_with c o (y ∷ ys) ≡ y ∷ ys
  later None is apart rest = rw apart (ap (λ l. y ∷ l) rest)
  later (Some row) is apart rest =
      let past : cell_cmp (cell_of row) (cell_of y) ≡ Greater = cell_turned (cell_of y) (cell_of row) Less (found_above (cell_of y) c ys row is r.0) in
      rw past (ap (λ l. y ∷ l) rest)

  by_test : (b : Bool) → same_cell (cell_of y) c ≡ b → rows_with c (row_at ys c) ys ≡ ys → rows_with c (cond b (Some y) (row_at ys c)) (y ∷ ys) ≡ y ∷ ys
  by_test true same rest = rw (cell_itself (cell_of y)) refl
  by_test false apart rest = later (row_at ys c) refl apart rest
