-- What puts, deletions, look-ups and scans of rows are on the pairs of their tables.
use Rattle.std.proofs.Common.{◌≡◌, ℕ, ◌<◌, ◌≤◌, Bool, true, false, not, ◌&&◌, ◌==◌, cond, List, [], ◌∷◌, map, Some, option_map, refl, sym, ap, subst, ◌∙◌, arith, inl, inr}
use Rattle.std.specs.List.{filter}
use Rattle.std.specs.declared.cmp.Ordering.{Ordering}
use Rattle.std.specs.declared.cmp.Ordering.TheVariants.{Less, Equal, Greater}
use Rattle.std.specs.Ordering.{is_eq, ordering_then, ordering_reverse, match_ordering}
use Rattle.std.proofs.lemmas.Bool.{eq-eqb, ne_eqb, eqb-true, eqb-false, cases_lt}
use Rattle.ltx_model.specs.declared.rows.StoredRow.{StoredRow}
use Rattle.ltx_model.specs.Keys.{Cell, key_cmp, cell_cmp, same_cell, in_range, put_in_order, put_at, AreAbove, IsRising}
use Rattle.ltx_model.specs.StoredRows.{cell_of, row_at}
use Rattle.ltx_model.specs.Rows.{without, row_of, rows_between}
use Rattle.ltx_model.proofs.KeyOrder.{key_turned, same_keys}
use Rattle.ltx_model.proofs.CellOrder.{cell_itself, in_one_table, same_cell_same}
use Rattle.ltx_model.proofs.Orderings.{number_below, number_above}
use Rattle.ltx_index.specs.Pairs.{value_at, with_pair, without_key}
use Rattle.ltx_check.specs.Tables.{pair_of, pairs_in, row_of_pair, between}

turned_eq : (o : Ordering) → is_eq (ordering_reverse o) ≡ is_eq o
turned_eq Less = refl
turned_eq Equal = refl
turned_eq Greater = refl

at : ℕ → List ℕ → Cell
at table key = record { table = table; key = key }

same_key : (row : StoredRow) (table : ℕ) (key : List ℕ) → row.table ≡ table → same_cell (cell_of row) (record { table = table; key = key }) ≡ is_eq (key_cmp key row.key)
same_key row table key is =
    ap (λ t. same_cell (record { table = t; key = row.key }) (record { table = table; key = key })) is
    ∙ ap is_eq (in_one_table table row.key key)
    ∙ ap is_eq (key_turned key row.key (key_cmp key row.key) refl)
    ∙ turned_eq (key_cmp key row.key)

other_table : (row : StoredRow) (table : ℕ) (key : List ℕ) → (row.table == table) ≡ false → same_cell (cell_of row) (record { table = table; key = key }) ≡ false
other_table row table key other = by (same_cell (cell_of row) (record { table = table; key = key })) refl where
  by : (b : Bool) → same_cell (cell_of row) (record { table = table; key = key }) ≡ b → b ≡ false
  by false is = refl
  by true is = absurd (eqb-false row.table table other (ap (λ c. c.table) (same_cell_same (cell_of row) (record { table = table; key = key }) is)))

-- ---- look-ups

pub value_in : (rows : List StoredRow) (table : ℕ) (key : List ℕ) → option_map (λ r. r.value) (row_at rows (record { table = table; key = key })) ≡ value_at (pairs_in table rows) key
value_in [] table key = refl
value_in (y ∷ rows) table key = by (y.table == table) refl (value_in rows table key) where
  by : (b : Bool) → (y.table == table) ≡ b → option_map (λ r. r.value) (row_at rows (record { table = table; key = key })) ≡ value_at (pairs_in table rows) key
      → option_map (λ r. r.value) (row_at (y ∷ rows) (record { table = table; key = key })) ≡ value_at (map pair_of (cond b (y ∷ filter (λ row. row.table == table) rows) (filter (λ row. row.table == table) rows))) key
  by true is rest = rw (same_key y table key (eqb-true y.table table is)) (found (is_eq (key_cmp key y.key)) rest) where
    found : (t : Bool) → option_map (λ r. r.value) (row_at rows (record { table = table; key = key })) ≡ value_at (pairs_in table rows) key
        → option_map (λ r. r.value) (cond t (Some y) (row_at rows (record { table = table; key = key }))) ≡ cond t (Some y.value) (value_at (pairs_in table rows) key)
    found true rest = refl
    found false rest = rest
  by false is rest = rw (other_table y table key is) rest

-- ---- scans

pub rows_in : (rows : List StoredRow) (table : ℕ) (low high : List ℕ) → rows_between rows table low high ≡ map row_of_pair (between low high (pairs_in table rows))
rows_in [] table low high = refl
rows_in (y ∷ rows) table low high = by (y.table == table) (rows_in rows table low high) where
  by : (b : Bool) → rows_between rows table low high ≡ map row_of_pair (between low high (pairs_in table rows))
      → map row_of (cond (b && in_range low high y.key) (y ∷ filter (λ row. (row.table == table) && in_range low high row.key) rows) (filter (λ row. (row.table == table) && in_range low high row.key) rows))
      ≡ map row_of_pair (between low high (map pair_of (cond b (y ∷ filter (λ row. row.table == table) rows) (filter (λ row. row.table == table) rows))))
  by false rest = rest
  by true rest = ranged (in_range low high y.key) where
    ranged : (t : Bool) → map row_of (cond t (y ∷ filter (λ row. (row.table == table) && in_range low high row.key) rows) (filter (λ row. (row.table == table) && in_range low high row.key) rows))
        ≡ map row_of_pair (cond t (pair_of y ∷ between low high (pairs_in table rows)) (between low high (pairs_in table rows)))
    ranged true = ap (λ l. row_of y ∷ l) rest
    ranged false = rest

-- ---- puts

-- rows above a greater table are in no lesser one
none_in : (rows : List StoredRow) (c : Cell) (table : ℕ) → table < c.table → AreAbove cell_of c rows → pairs_in table rows ≡ []
none_in [] c table low above = refl
none_in (y ∷ rows) c table low above = rw (ne_eqb y.table table (λ same. higher same)) (none_in rows c table low above.1) where
  higher : y.table ≡ table → ⊥
  higher same =
      let less : cell_cmp c (cell_of y) ≡ Greater = ap (λ o. ordering_then o (key_cmp c.key y.key)) (number_above c.table y.table (omega (arith, low, same))) in
      let both : Less ≡ Greater = sym above.0 ∙ less in
      cc

pub pairs_put : (r : StoredRow) (rows : List StoredRow) → IsRising cell_of rows → pairs_in r.table (put_in_order cell_of r rows) ≡ with_pair (pairs_in r.table rows) r.key r.value
pairs_put r [] rising = rw (eq-eqb r.table r.table refl) refl
pairs_put r (y ∷ rows) rising = by (y.table == r.table) refl (pairs_put r rows rising.1) where
  by : (b : Bool) → (y.table == r.table) ≡ b → pairs_in r.table (put_in_order cell_of r rows) ≡ with_pair (pairs_in r.table rows) r.key r.value
      → pairs_in r.table (put_in_order cell_of r (y ∷ rows)) ≡ with_pair (map pair_of (cond b (y ∷ filter (λ row. row.table == r.table) rows) (filter (λ row. row.table == r.table) rows))) r.key r.value
  by true is rest = rw cells (here (key_cmp r.key y.key) refl) where
    tables : y.table ≡ r.table
    tables = eqb-true y.table r.table is

    cells : cell_cmp (cell_of r) (cell_of y) ≡ key_cmp r.key y.key
    cells = ap (λ t. cell_cmp (cell_of r) (record { table = t; key = y.key })) tables ∙ in_one_table r.table r.key y.key

    here : (o : Ordering) → key_cmp r.key y.key ≡ o → pairs_in r.table (put_at o r y rows (put_in_order cell_of r rows))
        ≡ match_ordering o ((r.key, r.value) ∷ pair_of y ∷ pairs_in r.table rows) ((y.key, r.value) ∷ pairs_in r.table rows) (pair_of y ∷ with_pair (pairs_in r.table rows) r.key r.value)
    here Less e = rw (eq-eqb r.table r.table refl, is) refl
    here Equal e = rw (eq-eqb r.table r.table refl) (ap (λ k. let p : List ℕ × List ℕ = (k, r.value) in p ∷ pairs_in r.table rows) (same_keys r.key y.key e))
    here Greater e = rw is (ap (λ l. pair_of y ∷ l) rest)
  by false is rest = elim (cases_lt r.table y.table) [
    | inl low ↦
        let less : cell_cmp (cell_of r) (cell_of y) ≡ Less = ap (λ o. ordering_then o (key_cmp r.key y.key)) (number_below r.table y.table low) in
        let none : pairs_in r.table rows ≡ [] = none_in rows (cell_of y) r.table low rising.0 in
        rw (less, eq-eqb r.table r.table refl, is) (ap (λ l. pair_of r ∷ l) none ∙ sym (ap (λ l. with_pair l r.key r.value) none))
    | inr high ↦
        let more : cell_cmp (cell_of r) (cell_of y) ≡ Greater = ap (λ o. ordering_then o (key_cmp r.key y.key)) (number_above r.table y.table (above high)) in
        rw (more, is) rest
  ] where
    above : y.table ≤ r.table → y.table < r.table
    above high = let no : y.table ≡ r.table → ⊥ = eqb-false y.table r.table is in omega (arith, high, no)

pub pairs_put_other : (r : StoredRow) (rows : List StoredRow) (table : ℕ) → (r.table ≡ table → ⊥) → pairs_in table (put_in_order cell_of r rows) ≡ pairs_in table rows
pairs_put_other r [] table other = rw (ne_eqb r.table table other) refl
pairs_put_other r (y ∷ rows) table other = by (cell_cmp (cell_of r) (cell_of y)) refl (pairs_put_other r rows table other) where
  by : (o : Ordering) → cell_cmp (cell_of r) (cell_of y) ≡ o → pairs_in table (put_in_order cell_of r rows) ≡ pairs_in table rows → pairs_in table (put_at o r y rows (put_in_order cell_of r rows)) ≡ pairs_in table (y ∷ rows)
  by Less e rest = rw (ne_eqb r.table table other) refl
  by Equal e rest =
      let same : cell_of r ≡ cell_of y = same_cell_same (cell_of r) (cell_of y) (ap is_eq e) in
      let tables : r.table ≡ y.table = ap (λ c. c.table) same in
      rw (ne_eqb r.table table other, ne_eqb y.table table (λ is. other (tables ∙ is))) refl
  by Greater e rest = kept (y.table == table) where
    kept : (b : Bool) → map pair_of (cond b (y ∷ filter (λ row. row.table == table) (put_in_order cell_of r rows)) (filter (λ row. row.table == table) (put_in_order cell_of r rows)))
        ≡ map pair_of (cond b (y ∷ filter (λ row. row.table == table) rows) (filter (λ row. row.table == table) rows))
    kept true = ap (λ l. pair_of y ∷ l) rest
    kept false = rest

-- ---- deletions

without_above : (rows : List StoredRow) (c : Cell) → AreAbove cell_of c rows → without rows c ≡ rows
without_above [] c above = refl
without_above (y ∷ rows) c above = rw (apart (same_cell (cell_of y) c) refl) (ap (λ l. y ∷ l) (without_above rows c above.1)) where
  apart : (b : Bool) → same_cell (cell_of y) c ≡ b → b ≡ false
  apart false is = refl
  apart true is =
      let same : cell_of y ≡ c = same_cell_same (cell_of y) c is in
      let less : Less ≡ Equal = sym above.0 ∙ ap (cell_cmp c) same ∙ cell_itself c in
      cc

pub pairs_without : (rows : List StoredRow) (table : ℕ) (key : List ℕ) → IsRising cell_of rows → pairs_in table (without rows (record { table = table; key = key })) ≡ without_key (pairs_in table rows) key
pairs_without [] table key rising = refl
pairs_without (y ∷ rows) table key rising = by (y.table == table) refl (pairs_without rows table key rising.1) where
  by : (b : Bool) → (y.table == table) ≡ b → pairs_in table (without rows (record { table = table; key = key })) ≡ without_key (pairs_in table rows) key
      → pairs_in table (without (y ∷ rows) (record { table = table; key = key })) ≡ without_key (map pair_of (cond b (y ∷ filter (λ row. row.table == table) rows) (filter (λ row. row.table == table) rows))) key
  by false is rest = rw (other_table y table key is, is) rest
  by true is rest = rw same (here (is_eq (key_cmp key y.key)) same) where
    same : same_cell (cell_of y) (record { table = table; key = key }) ≡ is_eq (key_cmp key y.key)
    same = same_key y table key (eqb-true y.table table is)

    here : (t : Bool) → same_cell (cell_of y) (record { table = table; key = key }) ≡ t
        → pairs_in table (cond (not t) (y ∷ without rows (record { table = table; key = key })) (without rows (record { table = table; key = key }))) ≡ cond t (pairs_in table rows) (pair_of y ∷ without_key (pairs_in table rows) key)
    here true e =
        let cells : cell_of y ≡ record { table = table; key = key } = same_cell_same (cell_of y) (record { table = table; key = key }) e in
        ap (pairs_in table) (without_above rows (record { table = table; key = key }) (subst (λ c. AreAbove cell_of c rows) cells rising.0))
    here false e = rw is (ap (λ l. pair_of y ∷ l) rest)

pub pairs_without_other : (rows : List StoredRow) (c : Cell) (table : ℕ) → (c.table ≡ table → ⊥) → pairs_in table (without rows c) ≡ pairs_in table rows
pairs_without_other [] c table other = refl
pairs_without_other (y ∷ rows) c table other = by (same_cell (cell_of y) c) refl (pairs_without_other rows c table other) where
  by : (b : Bool) → same_cell (cell_of y) c ≡ b → pairs_in table (without rows c) ≡ pairs_in table rows
      → pairs_in table (cond (not b) (y ∷ without rows c) (without rows c)) ≡ pairs_in table (y ∷ rows)
  by true is rest =
      let tables : y.table ≡ c.table = ap (λ d. d.table) (same_cell_same (cell_of y) c is) in
      rw (ne_eqb y.table table (λ e. other (sym tables ∙ e))) rest
  by false is rest = kept (y.table == table) where
    kept : (b : Bool) → map pair_of (cond b (y ∷ filter (λ row. row.table == table) (without rows c)) (filter (λ row. row.table == table) (without rows c)))
        ≡ map pair_of (cond b (y ∷ filter (λ row. row.table == table) rows) (filter (λ row. row.table == table) rows))
    kept true = ap (λ l. pair_of y ∷ l) rest
    kept false = rest
