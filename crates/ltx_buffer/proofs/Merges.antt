-- The writes of a transaction's operations over the rows of a scan are what the scan sees.
use Rattle.std.proofs.Common.{◌≡◌, ℕ, Bool, true, false, cond, not, ◌&&◌, ◌==◌, List, [], ◌∷◌, ◌++◌, map, filter, Option, Some, None, refl, sym, ap, subst, ◌∙◌}
use Rattle.std.specs.Ordering.{nat_cmp}
use Rattle.std.specs.declared.cmp.Ordering.{Ordering}
use Rattle.std.specs.declared.cmp.Ordering.TheVariants.{Less, Equal, Greater}
use Rattle.std.specs.Cmp.{ranked, unsigned_tied}
use Rattle.std.proofs.lemmas.Bool.{both_ways}
use Rattle.ltx_model.specs.declared.commands.Op.{Op}
use Rattle.ltx_model.specs.declared.rows.Row.{Row}
use Rattle.ltx_model.specs.declared.rows.StoredRow.{StoredRow}
use Rattle.ltx_model.specs.declared.writes.Write.{Write}
use Rattle.ltx_model.specs.Keys.{Cell, cell_cmp, same_cell, in_range, put_in_order, AreAbove, IsRising}
use Rattle.ltx_model.specs.StoredRows.{cell_of}
use Rattle.ltx_model.specs.Operations.{cell_of_write, write_of, put_write, writes_after, writes_of}
use Rattle.ltx_model.specs.Rows.{without, row_of, rows_between, rows_after_all, rows_after_put, rows_after_writes}
use Rattle.ltx_model.proofs.CellOrder.{same_cells, same_cell_same}
use Rattle.ltx_model.proofs.Rising.{above_later, put_above}
use Rattle.ltx_lemmas.proofs.LastWrites.{rising_after_writes, last_writes_give}
use Rattle.ltx_buffer.specs.Own.{cell_in, rows_with, rows_under, is_between, merged}
use Rattle.ltx_model.proofs.Orderings.{is_equal}

-- One operation more: its write goes to the writes of those before it.
pub writes_of-push : (ws : List Write) (ops : List Op) (op : Op) → writes_after ws (ops ++ op ∷ []) ≡ put_write (write_of op) (writes_after ws ops)
writes_of-push ws [] op = refl
writes_of-push ws (o ∷ ops) op = writes_of-push (put_write (write_of o) ws) ops op

put_same : {A : Type 0} (cell : A → Cell) (x y : A) (ys : List A) → cell_cmp (cell x) (cell y) ≡ Equal → put_in_order cell x (y ∷ ys) ≡ x ∷ ys
put_same cell x y ys e = rw e refl

put_later : {A : Type 0} (cell : A → Cell) (x y : A) (ys : List A) → cell_cmp (cell x) (cell y) ≡ Greater → put_in_order cell x (y ∷ ys) ≡ y ∷ put_in_order cell x ys
put_later cell x y ys e = rw e refl

gone_first : (table : ℕ) (x : Row) (xs : List Row) (key : List ℕ) (d : Bool) → same_cell (cell_in table x) (record { table = table; key = key }) ≡ d
    → rows_with table (x ∷ xs) key None ≡ cond (not d) (x ∷ rows_with table xs key None) (rows_with table xs key None)
gone_first table x xs key d e = ap (λ b. cond (not b) (x ∷ rows_with table xs key None) (rows_with table xs key None)) e

module _ (table : ℕ) (low high : List ℕ) where
  -- the range holds the key
  abbrev holds : Cell → Bool
  holds c = (c.table == table) && in_range low high c.key

  holds_table : (c : Cell) → holds c ≡ true → c.table ≡ table
  holds_table c e = by_test (c.table == table) (in_range low high c.key) refl e where
    by_test : (b d : Bool) → (c.table == table) ≡ b → (b && d) ≡ true → c.table ≡ table
    by_test true d is e = ranked c.table table Equal (sym (is_equal (nat_cmp c.table table) (unsigned_tied c.table table ∙ is)))
    by_test false d is e = cc

  -- the rows of the range
  abbrev seen : List StoredRow → List Row
  seen rows = rows_between rows table low high

  seen_cons : (x : StoredRow) (xs : List StoredRow) → holds (cell_of x) ≡ true → seen (x ∷ xs) ≡ row_of x ∷ seen xs
  seen_cons x xs e = rw e refl

  seen_past : (x : StoredRow) (xs : List StoredRow) → holds (cell_of x) ≡ false → seen (x ∷ xs) ≡ seen xs
  seen_past x xs e = rw e refl

  place_is : (x : StoredRow) → holds (cell_of x) ≡ true → cell_in table (row_of x) ≡ cell_of x
  place_is x e = ap (λ t. record { table = t; key = x.key }) (sym (holds_table (cell_of x) e))

  cmp_is : (x y : StoredRow) → holds (cell_of x) ≡ true → holds (cell_of y) ≡ true → cell_cmp (cell_in table (row_of x)) (cell_in table (row_of y)) ≡ cell_cmp (cell_of x) (cell_of y)
  cmp_is x y e f = ap (λ c. cell_cmp c (cell_in table (row_of y))) (place_is x e) ∙ ap (cell_cmp (cell_of x)) (place_is y f)

  above_seen : (c : Cell) (rows : List StoredRow) → AreAbove cell_of c rows → AreAbove (cell_in table) c (seen rows)
  above_seen c [] above = tt
  above_seen c (x ∷ xs) above = by_test (holds (cell_of x)) refl (above_seen c xs above.1) where
    by_test : (b : Bool) → holds (cell_of x) ≡ b → AreAbove (cell_in table) c (seen xs)
        → AreAbove (cell_in table) c (map row_of (cond b (x ∷ filter (λ row. holds (cell_of row)) xs) (filter (λ row. holds (cell_of row)) xs)))
    by_test true e rest = (subst (λ t. cell_cmp c (record { table = t; key = x.key }) ≡ Less) (holds_table (cell_of x) e) above.0, rest)
    by_test false e rest = rest

  -- they stand in strictly rising order, as a merge asks
  pub rising_seen : (rows : List StoredRow) → IsRising cell_of rows → IsRising (cell_in table) (seen rows)
  rising_seen [] rising = tt
  rising_seen (x ∷ xs) rising = by_test (holds (cell_of x)) refl (rising_seen xs rising.1) where
    by_test : (b : Bool) → holds (cell_of x) ≡ b → IsRising (cell_in table) (seen xs)
        → IsRising (cell_in table) (map row_of (cond b (x ∷ filter (λ row. holds (cell_of row)) xs) (filter (λ row. holds (cell_of row)) xs)))
    by_test true e rest = (subst (λ t. AreAbove (cell_in table) (record { table = t; key = x.key }) (seen xs)) (holds_table (cell_of x) e) (above_seen (cell_of x) xs rising.0), rest)
    by_test false e rest = rest

  -- a row put outside the range is not seen
  put_outside : (r : StoredRow) (rows : List StoredRow) → holds (cell_of r) ≡ false → seen (put_in_order cell_of r rows) ≡ seen rows
  put_outside r [] out = rw out refl
  put_outside r (y ∷ ys) out = by_cmp (cell_cmp (cell_of r) (cell_of y)) refl (put_outside r ys out) where
    by_cmp : (o : Ordering) → cell_cmp (cell_of r) (cell_of y) ≡ o → seen (put_in_order cell_of r ys) ≡ seen ys → seen (put_in_order cell_of r (y ∷ ys)) ≡ seen (y ∷ ys)
    by_cmp Less e rest = rw e (rw out refl)
    by_cmp Equal e rest = rw e (rw (out, sym (ap holds (same_cells (cell_of r) (cell_of y) e)) ∙ out) refl)
    by_cmp Greater e rest = rw e (by_test (holds (cell_of y))) where
      by_test : (b : Bool) → map row_of (cond b (y ∷ filter (λ row. holds (cell_of row)) (put_in_order cell_of r ys)) (filter (λ row. holds (cell_of row)) (put_in_order cell_of r ys)))
          ≡ map row_of (cond b (y ∷ filter (λ row. holds (cell_of row)) ys) (filter (λ row. holds (cell_of row)) ys))
      by_test true = ap (λ rs. row_of y ∷ rs) rest
      by_test false = rest

  without_outside : (c : Cell) (rows : List StoredRow) → holds c ≡ false → seen (without rows c) ≡ seen rows
  without_outside c [] out = refl
  without_outside c (y ∷ ys) out = by_tests (same_cell (cell_of y) c) (holds (cell_of y)) refl refl (without_outside c ys out) where
    by_tests : (d b : Bool) → same_cell (cell_of y) c ≡ d → holds (cell_of y) ≡ b → seen (without ys c) ≡ seen ys
        → seen (cond (not d) (y ∷ without ys c) (without ys c)) ≡ map row_of (cond b (y ∷ filter (λ row. holds (cell_of row)) ys) (filter (λ row. holds (cell_of row)) ys))
    by_tests true true same is rest = absurd (both_ways (holds c) out (sym (ap holds (same_cell_same (cell_of y) c same)) ∙ is))
    by_tests true false same is rest = rest
    by_tests false true same is rest = rw is (ap (λ rs. row_of y ∷ rs) rest)
    by_tests false false same is rest = rw is rest

  -- a row put within it is seen in its place
  put_within : (r : StoredRow) (rows : List StoredRow) → IsRising cell_of rows → holds (cell_of r) ≡ true → seen (put_in_order cell_of r rows) ≡ put_in_order (cell_in table) (row_of r) (seen rows)
  put_within r [] rising within = rw within refl
  put_within r (y ∷ ys) rising within = by_cmp (cell_cmp (cell_of r) (cell_of y)) refl (put_within r ys rising.1 within) where
    here : cell_in table (row_of r) ≡ cell_of r
    here = place_is r within

    in_front : (rows : List StoredRow) → AreAbove cell_of (cell_of r) rows → row_of r ∷ seen rows ≡ put_in_order (cell_in table) (row_of r) (seen rows)
    in_front rows above = sym (put_above (cell_in table) (row_of r) (seen rows) (subst (λ c. AreAbove (cell_in table) c (seen rows)) (sym here) (above_seen (cell_of r) rows above)))

    by_cmp : (o : Ordering) → cell_cmp (cell_of r) (cell_of y) ≡ o → seen (put_in_order cell_of r ys) ≡ put_in_order (cell_in table) (row_of r) (seen ys)
        → seen (put_in_order cell_of r (y ∷ ys)) ≡ put_in_order (cell_in table) (row_of r) (seen (y ∷ ys))
    by_cmp Less e rest = rw e (seen_cons r (y ∷ ys) within ∙ in_front (y ∷ ys) (e, above_later cell_of (cell_of r) (cell_of y) ys e rising.0))
    by_cmp Equal e rest =
        let held : holds (cell_of y) ≡ true = sym (ap holds (same_cells (cell_of r) (cell_of y) e)) ∙ within in
        rw e (seen_cons r ys within ∙ sym (ap (put_in_order (cell_in table) (row_of r)) (seen_cons y ys held) ∙ put_same (cell_in table) (row_of r) (row_of y) (seen ys) (cmp_is r y within held ∙ e)))
    by_cmp Greater e rest = rw e (by_test (holds (cell_of y)) refl) where
      by_test : (b : Bool) → holds (cell_of y) ≡ b → seen (y ∷ put_in_order cell_of r ys) ≡ put_in_order (cell_in table) (row_of r) (seen (y ∷ ys))
      by_test true held =
          seen_cons y (put_in_order cell_of r ys) held ∙ ap (λ rs. row_of y ∷ rs) rest
          ∙ sym (ap (put_in_order (cell_in table) (row_of r)) (seen_cons y ys held) ∙ put_later (cell_in table) (row_of r) (row_of y) (seen ys) (cmp_is r y within held ∙ e))
      by_test false out = seen_past y (put_in_order cell_of r ys) out ∙ rest ∙ ap (put_in_order (cell_in table) (row_of r)) (sym (seen_past y ys out))

  -- a row deleted within it is seen no more
  without_within : (c : Cell) (rows : List StoredRow) → holds c ≡ true → seen (without rows c) ≡ rows_with table (seen rows) c.key None
  without_within c [] within = refl
  without_within c (y ∷ ys) within = by_tests (same_cell (cell_of y) c) (holds (cell_of y)) refl refl (without_within c ys within) where
    same_there : holds (cell_of y) ≡ true → same_cell (cell_in table (row_of y)) (record { table = table; key = c.key }) ≡ same_cell (cell_of y) c
    same_there held = ap (λ d. same_cell d (record { table = table; key = c.key })) (place_is y held) ∙ ap (λ t. same_cell (cell_of y) (record { table = t; key = c.key })) (sym (holds_table c within))

    by_tests : (d b : Bool) → same_cell (cell_of y) c ≡ d → holds (cell_of y) ≡ b → seen (without ys c) ≡ rows_with table (seen ys) c.key None
        → seen (cond (not d) (y ∷ without ys c) (without ys c)) ≡ rows_with table (seen (y ∷ ys)) c.key None
    by_tests true true same held rest = rest ∙ sym (ap (λ rs. rows_with table rs c.key None) (seen_cons y ys held) ∙ gone_first table (row_of y) (seen ys) c.key true (same_there held ∙ same))
    by_tests false true same held rest =
        seen_cons y (without ys c) held ∙ ap (λ rs. row_of y ∷ rs) rest
        ∙ sym (ap (λ rs. rows_with table rs c.key None) (seen_cons y ys held) ∙ gone_first table (row_of y) (seen ys) c.key false (same_there held ∙ same))
    by_tests true false same out rest = rest ∙ ap (λ rs. rows_with table rs c.key None) (sym (seen_past y ys out))
    by_tests false false same out rest = seen_past y (without ys c) out ∙ rest ∙ ap (λ rs. rows_with table rs c.key None) (sym (seen_past y ys out))

  -- one write
  write_within : (tx : ℕ) (c : Cell) (put : Option (List ℕ)) (rows : List StoredRow) → IsRising cell_of rows → holds c ≡ true → seen (rows_after_put tx rows c put) ≡ rows_with table (seen rows) c.key put
  write_within tx c None rows rising within = without_within c rows within
  write_within tx c (Some value) rows rising within = put_within (record { table = c.table; key = c.key; value = value; writer = tx }) rows rising within

  write_outside : (tx : ℕ) (c : Cell) (put : Option (List ℕ)) (rows : List StoredRow) → holds c ≡ false → seen (rows_after_put tx rows c put) ≡ seen rows
  write_outside tx c None rows out = without_outside c rows out
  write_outside tx c (Some value) rows out = put_outside (record { table = c.table; key = c.key; value = value; writer = tx }) rows out

  -- all of them
  writes_seen : (tx : ℕ) (ws : List Write) (rows : List StoredRow) → IsRising cell_of rows → merged ws table low high (seen rows) ≡ seen (rows_after_writes tx rows ws)
  writes_seen tx [] rows rising = refl
  writes_seen tx (w ∷ ws) rows rising = by_test (holds (cell_of_write w)) refl (writes_seen tx ws (rows_after_put tx rows (cell_of_write w) w.put) (rising_after_writes tx rows (w ∷ []) rising)) where
    by_test : (b : Bool) → holds (cell_of_write w) ≡ b → merged ws table low high (seen (rows_after_put tx rows (cell_of_write w) w.put)) ≡ seen (rows_after_writes tx (rows_after_put tx rows (cell_of_write w) w.put) ws)
        → rows_under table (seen rows) (cond b (w ∷ filter (is_between table low high) ws) (filter (is_between table low high) ws)) ≡ seen (rows_after_writes tx (rows_after_put tx rows (cell_of_write w) w.put) ws)
    by_test true e rest = ap (λ rs. rows_under table rs (filter (is_between table low high) ws)) (sym (write_within tx (cell_of_write w) w.put rows rising e)) ∙ rest
    by_test false e rest = ap (λ rs. rows_under table rs (filter (is_between table low high) ws)) (sym (write_outside tx (cell_of_write w) w.put rows e)) ∙ rest

  -- A scan's rows with the writes of earlier operations over them are the scan's rows after these operations.
  pub merged_is_seen : (tx : ℕ) (rows : List StoredRow) (ops : List Op) → IsRising cell_of rows → merged (writes_of ops) table low high (rows_between rows table low high) ≡ rows_between (rows_after_all tx rows ops) table low high
  merged_is_seen tx rows ops rising = writes_seen tx (writes_of ops) rows rising ∙ ap seen (last_writes_give tx rows ops rising)
