-- A range of one table, in the list of all.
use Rattle.std.proofs.Common.{◌≡◌, ℕ, zero, suc, ◌+◌, ◌<◌, Bool, true, false, cond, ◌&&◌, ◌==◌, List, [], ◌∷◌, length, map, filter, filter_map, Option, Some, None, option_map, refl, sym, ap, ◌∙◌, subst, arith, get_or, append-nil}
use Rattle.std.specs.List.{cons_option}
use Rattle.std.proofs.lemmas.List.Elements.{filter-append}
use Rattle.std.proofs.lemmas.Bool.Decides.{nat_tests}
use Rattle.ltx_model.specs.declared.rows.Row.{Row}
use Rattle.ltx_model.specs.declared.rows.StoredRow.{StoredRow}
use Rattle.ltx_model.specs.Keys.{Cell, in_range}
use Rattle.ltx_model.specs.StoredRows.{cell_of}
use Rattle.ltx_model.specs.Rows.{row_of, rows_between}
use Rattle.ltx_chain.specs.declared.chain.Version.{Version}
use Rattle.ltx_chain.specs.Versions.{Versions, visible}
use Rattle.ltx_store.specs.Kept.{Kept, cell_of_kept, row_put, row_of_version, row_by, rows_by, rows_at, of_table, of_tables}
use Rattle.ltx_store.specs.Scans.{is_between, look_of_version, row_of_seen, look_at, looks_between, between, rows_seen, looks_seen}
use Rattle.ltx_store.proofs.Rows.{row_keeps}

abbrev Pairs : Type 0
Pairs = List (List ℕ × Versions)

module _ (see : List Version → Option Version) (test : Cell → Bool) where
  -- a test of the key chooses rows as it chooses keys
  filter-rows : (kept : List Kept) → filter (λ row. test (cell_of row)) (rows_by see kept) ≡ rows_by see (filter (λ e. test (cell_of_kept e)) kept)
  filter-rows [] = refl
  filter-rows (e ∷ es) = by_row (row_by see e) refl (filter-rows es) where
    by_row : (o : Option StoredRow) → row_by see e ≡ o → filter (λ row. test (cell_of row)) (rows_by see es) ≡ rows_by see (filter (λ x. test (cell_of_kept x)) es)
        → filter (λ row. test (cell_of row)) (cons_option o (rows_by see es)) ≡ rows_by see (cond (test (cell_of_kept e)) (e ∷ filter (λ x. test (cell_of_kept x)) es) (filter (λ x. test (cell_of_kept x)) es))
    by_row None row rest = by_test (test (cell_of_kept e)) where
      by_test : (b : Bool) → filter (λ r. test (cell_of r)) (rows_by see es) ≡ rows_by see (cond b (e ∷ filter (λ x. test (cell_of_kept x)) es) (filter (λ x. test (cell_of_kept x)) es))
      by_test true = rw row rest
      by_test false = rest
    by_row (Some q) row rest =
        subst (λ c. cond (test c) (q ∷ filter (λ r. test (cell_of r)) (rows_by see es)) (filter (λ r. test (cell_of r)) (rows_by see es)) ≡ rows_by see (cond (test (cell_of_kept e)) (e ∷ filter (λ x. test (cell_of_kept x)) es) (filter (λ x. test (cell_of_kept x)) es))) (sym (row_keeps see e q row))
        (by_test (test (cell_of_kept e))) where
          by_test : (b : Bool) → cond b (q ∷ filter (λ r. test (cell_of r)) (rows_by see es)) (filter (λ r. test (cell_of r)) (rows_by see es)) ≡ rows_by see (cond b (e ∷ filter (λ x. test (cell_of_kept x)) es) (filter (λ x. test (cell_of_kept x)) es))
          by_test true = rw row (ap (λ l. q ∷ l) rest)
          by_test false = rest

module _ (low high : List ℕ) where
  -- a table by its number
  none_between : (n t : ℕ) (pairs : Pairs) → (t == n) ≡ false → filter (is_between n low high) (of_table t pairs) ≡ []
  none_between n t [] apart = refl
  none_between n t (p ∷ ps) apart = rw apart (none_between n t ps apart)

  all_between : (n : ℕ) (pairs : Pairs) → (n == n) ≡ true → filter (is_between n low high) (of_table n pairs) ≡ of_table n (between low high pairs)
  all_between n [] same = refl
  all_between n (p ∷ ps) same = rw same (by_test (in_range low high p.0) (all_between n ps same)) where
    e : Kept
    e = record { table = n; key = p.0; versions = p.1 }

    by_test : (b : Bool) → filter (is_between n low high) (of_table n ps) ≡ of_table n (between low high ps)
        → cond b (e ∷ filter (is_between n low high) (of_table n ps)) (filter (is_between n low high) (of_table n ps)) ≡ of_table n (cond b (p ∷ between low high ps) (between low high ps))
    by_test true rest = ap (λ l. e ∷ l) rest
    by_test false rest = rest

  none_later : (n t : ℕ) (ts : List Pairs) → n < t → filter (is_between n low high) (of_tables t ts) ≡ []
  none_later n t [] less = refl
  none_later n t (pairs ∷ ts) less =
      let apart : (t == n) ≡ false = grind (arith, nat_tests) in
      filter-append (is_between n low high) (of_table t pairs) (of_tables (t + 1) ts) ∙ rw (none_between n t pairs apart) (none_later n (t + 1) ts (omega arith))

  range-of_tables : (t i n : ℕ) (ts : List Pairs) (pairs : Pairs) → n ≡ t + i → i < length ts → pairs ≡ get_or ts i pairs → filter (is_between n low high) (of_tables t ts) ≡ of_table n (between low high pairs)
  range-of_tables t i n [] pairs at within is = absurd (omega arith)
  range-of_tables t zero n (ps ∷ ts) pairs at within is =
      let same : t ≡ n = omega arith in
      let itself : (n == n) ≡ true = grind (arith, nat_tests) in
      filter-append (is_between n low high) (of_table t ps) (of_tables (t + 1) ts)
      ∙ rw (none_later n (t + 1) ts (omega arith)) (append-nil (filter (is_between n low high) (of_table t ps)))
      ∙ ap (λ m. filter (is_between n low high) (of_table m ps)) same
      ∙ all_between n ps itself ∙ ap (λ l. of_table n (between low high l)) (sym is)
  range-of_tables t (suc i) n (ps ∷ ts) pairs at within is =
      let apart : (t == n) ≡ false = grind (arith, nat_tests) in
      filter-append (is_between n low high) (of_table t ps) (of_tables (t + 1) ts)
      ∙ rw (none_between n t ps apart) (range-of_tables (t + 1) i n ts pairs (omega arith) (omega arith) is)

-- rows and looks do not depend on the table's number
row_seen : (e : Kept) (v : Option Version) → option_map row_of (row_of_version (cell_of_kept e) v) ≡ row_of_seen e.key v
row_seen e None = refl
row_seen e (Some v) = by_put v.put where
  by_put : (p : Option (List ℕ)) → option_map row_of (row_put (cell_of_kept e) v.writer p) ≡ option_map (λ value. let row : Row = record { key = e.key; value = value } in row) p
  by_put None = refl
  by_put (Some value) = refl

map_cons : (o : Option StoredRow) (rows : List StoredRow) → map row_of (cons_option o rows) ≡ cons_option (option_map row_of o) (map row_of rows)
map_cons None rows = refl
map_cons (Some row) rows = refl

rows-of_table : (mark n : ℕ) (pairs : Pairs) → map row_of (rows_at mark (of_table n pairs)) ≡ rows_seen mark pairs
rows-of_table mark n [] = refl
rows-of_table mark n (p ∷ ps) =
    let e : Kept = record { table = n; key = p.0; versions = p.1 } in
    map_cons (row_by (visible mark) e) (rows_at mark (of_table n ps)) ∙ ap (λ o. cons_option o (map row_of (rows_at mark (of_table n ps)))) (row_seen e (visible mark p.1.items)) ∙ ap (cons_option (row_of_seen p.0 (visible mark p.1.items))) (rows-of_table mark n ps)

looks-of_table : (mark n : ℕ) (pairs : Pairs) → filter_map (look_at mark) (of_table n pairs) ≡ looks_seen mark pairs
looks-of_table mark n [] = refl
looks-of_table mark n (p ∷ ps) = ap (cons_option (look_of_version p.0 (visible mark p.1.items))) (looks-of_table mark n ps)

module _ (low high : List ℕ) (mark t i n : ℕ) (ts : List Pairs) (pairs : Pairs) (at : n ≡ t + i) (within : i < length ts) (is : pairs ≡ get_or ts i pairs) where
  -- the rows of a range are those of the table's pairs there
  pub rows_between-of_tables : rows_between (rows_at mark (of_tables t ts)) n low high ≡ rows_seen mark (between low high pairs)
  rows_between-of_tables =
      ap (map row_of) (filter-rows (visible mark) (λ c. (c.table == n) && in_range low high c.key) (of_tables t ts)
      ∙ ap (rows_at mark) (range-of_tables low high t i n ts pairs at within is))
      ∙ rows-of_table mark n (between low high pairs)

  -- the looks as well
  pub looks_between-of_tables : looks_between mark (of_tables t ts) n low high ≡ looks_seen mark (between low high pairs)
  looks_between-of_tables = ap (filter_map (look_at mark)) (range-of_tables low high t i n ts pairs at within is) ∙ looks-of_table mark n (between low high pairs)
