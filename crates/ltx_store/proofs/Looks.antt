-- A key's look in a scan, and its row's writer, by the version that is seen.
use Rattle.std.proofs.Common.{◌≡◌, ℕ, Bool, true, false, cond, ◌&&◌, ◌==◌, List, [], ◌∷◌, filter, filter_map, Option, Some, None, option_map, refl, sym, ap, ◌∙◌, subst, arith}
use Rattle.std.specs.List.{find, cons_option}
use Rattle.std.proofs.lemmas.Bool.Decides.{nat_tests}
use Rattle.std.specs.declared.cmp.Ordering.TheVariants.{Less}
use Rattle.ltx_model.specs.declared.rows.StoredRow.{StoredRow}
use Rattle.ltx_model.specs.declared.writes.Look.{Look}
use Rattle.ltx_model.specs.Keys.{Cell, cell_cmp, same_cell, in_range, AreAbove, IsRising}
use Rattle.ltx_model.specs.StoredRows.{writer_at}
use Rattle.ltx_chain.specs.declared.chain.Version.{Version}
use Rattle.ltx_chain.specs.Versions.{visible}
use Rattle.ltx_store.specs.Kept.{Kept, cell_of_kept, kept_at, items_of, versions_at, row_put, row_of_version, rows_by}
use Rattle.ltx_store.specs.Latest.{putter}
use Rattle.ltx_store.specs.Scans.{is_between, look_of_version, look_at, looks_between}
use Rattle.ltx_model.proofs.CellOrder.{same_cell_same}
use Rattle.ltx_model.proofs.Rising.{above_same, item_at-above}
use Rattle.ltx_store.proofs.Changes.{row_of_seen}

-- the writer of the row that a version makes
put_writer : (c : Cell) (writer : ℕ) (p : Option (List ℕ)) → option_map (λ (row : StoredRow). row.writer) (row_put c writer p) ≡ option_map (λ value. writer) p
put_writer c writer None = refl
put_writer c writer (Some value) = refl

pub version_writer : (c : Cell) (v : Option Version) → option_map (λ (row : StoredRow). row.writer) (row_of_version c v) ≡ putter v
version_writer c None = refl
version_writer c (Some v) = put_writer c v.writer v.put

-- the writer of a key's row
pub writer_of_seen : (see : List Version → Option Version) → see [] ≡ None → (kept : List Kept) (c : Cell) → IsRising cell_of_kept kept → writer_at (rows_by see kept) c ≡ putter (see (versions_at kept c))
writer_of_seen see blind kept c r = ap (option_map (λ row. row.writer)) (sym (row_of_seen see blind c kept r)) ∙ version_writer c (see (versions_at kept c))

module _ (table : ℕ) where
  -- where a look of the table stands
  abbrev pub cell_of_look : Look → Cell
  cell_of_look l = record { table = table; key = l.key }

module _ (table mark : ℕ) (low high : List ℕ) where
  -- a look stands at its key
  look_keeps : (key : List ℕ) (v : Option Version) (l : Look) → look_of_version key v ≡ Some l → l.key ≡ key
  look_keeps key None l is = cc
  look_keeps key (Some v) l is = cc

  both_true : (a b : Bool) → (a && b) ≡ true → (a ≡ true) × (b ≡ true)
  both_true true b is = (refl, is)
  both_true false b is = cc

  right_false : (a b : Bool) → (a && b) ≡ false → a ≡ true → b ≡ false
  right_false true b is at = is
  right_false false b is at = cc

  same_number : (n m : ℕ) → n ≡ m → (n == m) ≡ true
  same_number n m is = grind (arith, nat_tests)

  of_the_table : (n : ℕ) → (n == table) ≡ true → n ≡ table
  of_the_table n is = grind (arith, nat_tests)

module _ (table mark : ℕ) (low high : List ℕ) where
  in_table : (e : Kept) → is_between table low high e ≡ true → cell_of_kept e ≡ record { table = table; key = e.key }
  in_table e is = ap (λ n. let c : Cell = record { table = n; key = e.key } in c) (of_the_table table mark low high e.table (both_true table mark low high (e.table == table) (in_range low high e.key) is).0)

  looks_above : (c : Cell) (kept : List Kept) → AreAbove cell_of_kept c kept → AreAbove (cell_of_look table) c (looks_between mark kept table low high)
  looks_above c [] all = tt
  looks_above c (e ∷ es) all = by_test (is_between table low high e) refl (looks_above c es all.1) where
    by_look : (o : Option Look) → look_at mark e ≡ o → is_between table low high e ≡ true → AreAbove (cell_of_look table) c (looks_between mark es table low high) → AreAbove (cell_of_look table) c (cons_option o (looks_between mark es table low high))
    by_look None is inside rest = rest
    by_look (Some l) is inside rest =
        let here : record { table = table; key = e.key } ≡ cell_of_look table l = ap (λ k. let d : Cell = record { table = table; key = k } in d) (sym (look_keeps table mark low high e.key (visible mark e.versions.items) l is)) in
        (subst (λ d. cell_cmp c d ≡ Less) (in_table e inside ∙ here) all.0, rest)

    by_test : (b : Bool) → is_between table low high e ≡ b → AreAbove (cell_of_look table) c (looks_between mark es table low high)
        → AreAbove (cell_of_look table) c (filter_map (look_at mark) (cond b (e ∷ filter (is_between table low high) es) (filter (is_between table low high) es)))
    by_test true inside rest = by_look (look_at mark e) refl inside rest
    by_test false inside rest = rest

module _ (table mark : ℕ) (low high : List ℕ) where
  -- looks stand in the order of their keys, one a key
  pub looks_rising : (kept : List Kept) → IsRising cell_of_kept kept → IsRising (cell_of_look table) (looks_between mark kept table low high)
  looks_rising [] r = tt
  looks_rising (e ∷ es) r = by_test (is_between table low high e) refl (looks_rising es r.1) where
    by_look : (o : Option Look) → look_at mark e ≡ o → is_between table low high e ≡ true → IsRising (cell_of_look table) (looks_between mark es table low high) → IsRising (cell_of_look table) (cons_option o (looks_between mark es table low high))
    by_look None is inside rest = rest
    by_look (Some l) is inside rest =
        let here : record { table = table; key = e.key } ≡ cell_of_look table l = ap (λ k. let d : Cell = record { table = table; key = k } in d) (sym (look_keeps table mark low high e.key (visible mark e.versions.items) l is)) in
        (above_same (cell_of_look table) _ _ (looks_between mark es table low high) (sym (in_table table mark low high e inside ∙ here)) (looks_above table mark low high (cell_of_kept e) es r.0), rest)

    by_test : (b : Bool) → is_between table low high e ≡ b → IsRising (cell_of_look table) (looks_between mark es table low high)
        → IsRising (cell_of_look table) (filter_map (look_at mark) (cond b (e ∷ filter (is_between table low high) es) (filter (is_between table low high) es)))
    by_test true inside rest = by_look (look_at mark e) refl inside rest
    by_test false inside rest = rest

-- the look of one key
module _ (table mark : ℕ) (low high key : List ℕ) where
  abbrev of_key : List Look → Option Look
  of_key looks = find (λ l. same_cell (cell_of_look table l) (record { table = table; key = key })) looks

  abbrev seen_look : List Kept → Option Look
  seen_look kept = cond (in_range low high key) (look_of_version key (visible mark (versions_at kept (record { table = table; key = key })))) None

  -- the same, by whether the list's first key is this one
  abbrev goal_by : Kept → List Kept → Bool → Option Look
  goal_by e es b = cond (in_range low high key) (look_of_version key (visible mark (items_of (option_map (λ (k : Kept). k.versions) (cond b (Some e) (kept_at es (record { table = table; key = key }))))))) None

  no_look : (b : Bool) → cond {A = Option Look} b None None ≡ None
  no_look true = refl
  no_look false = refl

  none_above : (c : Cell) (es : List Kept) → c ≡ record { table = table; key = key } → AreAbove cell_of_kept c es → seen_look es ≡ None
  none_above c es same all =
      ap (λ o. cond (in_range low high key) (look_of_version key (visible mark (items_of (option_map (λ (k : Kept). k.versions) o)))) None) (item_at-above cell_of_kept (record { table = table; key = key }) es (above_same cell_of_kept _ c es (sym same) all))
      ∙ no_look (in_range low high key)

module _ (table mark : ℕ) (low high key : List ℕ) where
  -- the first key of the list, by whether it is of the range and whether it is this one
  look_by : (e : Kept) (es : List Kept) (b q : Bool) → is_between table low high e ≡ b → same_cell (cell_of_kept e) (record { table = table; key = key }) ≡ q → AreAbove cell_of_kept (cell_of_kept e) es
      → of_key table mark low high key (looks_between mark es table low high) ≡ seen_look table mark low high key es
      → of_key table mark low high key (filter_map (look_at mark) (cond b (e ∷ filter (is_between table low high) es) (filter (is_between table low high) es)))
      ≡ cond (in_range low high key) (look_of_version key (visible mark (items_of (option_map (λ (k : Kept). k.versions) (cond q (Some e) (kept_at es (record { table = table; key = key }))))))) None
  look_by e es false false inside same above rest = rest
  look_by e es false true inside same above rest =
      let here : cell_of_kept e ≡ record { table = table; key = key } = same_cell_same (cell_of_kept e) (record { table = table; key = key }) same in
      let out : in_range low high key ≡ false = right_false table mark low high (e.table == table) (in_range low high key) (subst (λ (c : Cell). ((e.table == table) && in_range low high c.key) ≡ false) here inside) (same_number table mark low high e.table table (ap (λ (c : Cell). c.table) here)) in
      rest ∙ none_above table mark low high key (cell_of_kept e) es here above ∙ rw out refl
  look_by e es true q inside same above rest = by_look (look_at mark e) refl q same where
    key_is : same_cell (cell_of_kept e) (record { table = table; key = key }) ≡ true → e.key ≡ key
    key_is is = ap (λ (c : Cell). c.key) (same_cell_same (cell_of_kept e) (record { table = table; key = key }) is)

    stands : (l : Look) → look_at mark e ≡ Some l → cell_of_look table l ≡ cell_of_kept e
    stands l is = ap (λ k. let d : Cell = record { table = table; key = k } in d) (look_keeps table mark low high e.key (visible mark e.versions.items) l is) ∙ sym (in_table table mark low high e inside)

    by_look : (o : Option Look) → look_at mark e ≡ o → (b : Bool) → same_cell (cell_of_kept e) (record { table = table; key = key }) ≡ b
        → of_key table mark low high key (cons_option o (looks_between mark es table low high)) ≡ goal_by table mark low high key e es b
    by_look None is false apart = rest
    by_look None is true apart =
        let none : look_of_version key (visible mark e.versions.items) ≡ None = subst (λ k. look_of_version k (visible mark e.versions.items) ≡ None) (key_is apart) is in
        rest ∙ none_above table mark low high key (cell_of_kept e) es (same_cell_same (cell_of_kept e) (record { table = table; key = key }) apart) above ∙ rw none (sym (no_look table mark low high key (in_range low high key)))
    by_look (Some l) is false apart =
        subst (λ c. cond (same_cell c (record { table = table; key = key })) (Some l) (of_key table mark low high key (looks_between mark es table low high)) ≡ goal_by table mark low high key e es false) (sym (stands l is)) (rw apart rest)
    by_look (Some l) is true apart =
        let some : look_of_version key (visible mark e.versions.items) ≡ Some l = subst (λ k. look_of_version k (visible mark e.versions.items) ≡ Some l) (key_is apart) is in
        let within : in_range low high key ≡ true = subst (λ k. in_range low high k ≡ true) (key_is apart) (both_true table mark low high (e.table == table) (in_range low high e.key) inside).1 in
        subst (λ c. cond (same_cell c (record { table = table; key = key })) (Some l) (of_key table mark low high key (looks_between mark es table low high)) ≡ goal_by table mark low high key e es true) (sym (stands l is)) (rw (apart, within, some) refl)

module _ (table mark : ℕ) (low high key : List ℕ) where
  -- a key of the range has the look of the version that is seen, and no other key has one
  pub look-between : (kept : List Kept) → IsRising cell_of_kept kept
      → find (λ l. same_cell (cell_of_look table l) (record { table = table; key = key })) (looks_between mark kept table low high)
      ≡ cond (in_range low high key) (look_of_version key (visible mark (versions_at kept (record { table = table; key = key })))) None
  look-between [] r = sym (no_look table mark low high key (in_range low high key))
  look-between (e ∷ es) r = look_by table mark low high key e es (is_between table low high e) (same_cell (cell_of_kept e) (record { table = table; key = key })) refl refl r.0 (look-between es r.1)
