-- The rows of a base in the store, while they are loaded.
use Rattle.std.proofs.Common.{◌≡◌, Bool, true, false, cond, option_map, List, [], ◌∷◌, ◌++◌, Some, None, Option, refl, sym, ap, ◌∙◌, subst, append_assoc}
use Rattle.std.specs.List.{AllByRecursion}
use Rattle.std.specs.Ordering.{is_eq}
use Rattle.std.specs.declared.cmp.Ordering.TheVariants.{Less}
use Rattle.ltx_model.specs.declared.rows.StoredRow.{StoredRow}
use Rattle.ltx_model.specs.Keys.{Cell, cell_cmp, same_cell, put_in_order, AreAbove, IsRising}
use Rattle.ltx_model.specs.StoredRows.{cell_of, row_at}
use Rattle.ltx_lemmas.proofs.Lists.{all_back, some_same, none_some}
use Rattle.ltx_model.proofs.CellOrder.{same_cell_refl, same_cell_same, cell_turned}
use Rattle.ltx_chain.specs.declared.chain.Version.{Version}
use Rattle.ltx_chain.specs.Versions.{latest}
use Rattle.ltx_store.specs.Kept.{Kept, items_of, versions_at, latest_rows, AreUpTo, HasLoaded}
use Rattle.ltx_model.specs.LastWrites.{made_before}
use Rattle.ltx_model.proofs.RowsAt.{row_at-put}
use Rattle.ltx_core.specs.Stands.{IsOfBase, write_seen}

-- The last ones of these rows are left to load, of keys without versions; the others are the latest rows.
pub record IsLoading (store : List Kept) (rows rest : List StoredRow) : Type 0 where
  pub rising : IsRising cell_of rows
  pub loaded : latest_rows store ++ rest ≡ rows
  pub absent : AllByRecursion (λ row. versions_at store (cell_of row) ≡ []) rest
  pub marks : AreUpTo 0 store
  pub firsts : (cell : Cell) → AllByRecursion (IsOfBase rows cell) (versions_at store cell)
  pub written : (cell : Cell) → write_seen (latest (versions_at store cell)) ≡ option_map made_before (row_at (latest_rows store) cell)

-- at first all are left
pub all_left : (store : List Kept) (rows : List StoredRow) → store ≡ [] → IsRising cell_of rows → IsLoading store rows rows
all_left store rows empty rising = subst (λ s. IsLoading s rows rows) (sym empty) (record {
  rising = rising;
  loaded = refl;
  absent = none rows;
  marks = tt;
  firsts = λ q. tt;
  written = λ q. refl;
}) where
  none : (rs : List StoredRow) → AllByRecursion (λ row. versions_at [] (cell_of row) ≡ []) rs
  none [] = tt
  none (r ∷ rs) = (refl, none rs)

-- a row above all others goes to their end
put_last : (front : List StoredRow) (row : StoredRow) (rest : List StoredRow) → IsRising cell_of (front ++ row ∷ rest) → put_in_order cell_of row front ≡ front ++ row ∷ []
put_last [] row rest rising = refl
put_last (y ∷ ys) row rest rising =
    let above : AreAbove cell_of (cell_of y) (row ∷ rest) = all_back (λ x. cell_cmp (cell_of y) (cell_of x) ≡ Less) ys (row ∷ rest) rising.0 in
    rw (cell_turned (cell_of y) (cell_of row) Less above.0) (ap (λ l. y ∷ l) (put_last ys row rest rising.1))

-- a row of rows in order is found at its key
found_there : (front : List StoredRow) (row : StoredRow) (rest : List StoredRow) → IsRising cell_of (front ++ row ∷ rest) → row_at (front ++ row ∷ rest) (cell_of row) ≡ Some row
found_there [] row rest rising = rw (same_cell_refl (cell_of row)) refl
found_there (y ∷ ys) row rest rising =
    let above : AreAbove cell_of (cell_of y) (row ∷ rest) = all_back (λ x. cell_cmp (cell_of y) (cell_of x) ≡ Less) ys (row ∷ rest) rising.0 in
    rw (ap is_eq above.0) (found_there ys row rest rising.1)

rising_back : (front back : List StoredRow) → IsRising cell_of (front ++ back) → IsRising cell_of back
rising_back [] back rising = rising
rising_back (y ∷ ys) back rising = rising_back ys back rising.1

-- one is loaded
pub one_loaded : (store new : List Kept) (rows : List StoredRow) (row : StoredRow) (rest : List StoredRow) → IsLoading store rows (row ∷ rest) → HasLoaded store new row → IsLoading new rows rest
one_loaded store new rows row rest before done = record {
  rising = before.rising;
  loaded =
      ap (λ l. l ++ rest) (done.latest ∙ put_last (latest_rows store) row rest rises) ∙ append_assoc (latest_rows store) (row ∷ []) rest ∙ before.loaded;
  absent = still rest (rising_back (latest_rows store) (row ∷ rest) rises).0 before.absent.1;
  marks = done.marks 0 before.marks;
  firsts = λ q. by_test q (same_cell (cell_of row) q) refl;
  written = λ q. last_of q (same_cell (cell_of row) q) refl ∙ sym (ap (λ rs. option_map made_before (row_at rs q)) done.latest ∙ ap (option_map made_before) (row_at-put row (latest_rows store) q));
} where
  last_of : (q : Cell) (b : Bool) → same_cell (cell_of row) q ≡ b → write_seen (latest (versions_at new q)) ≡ option_map made_before (cond (same_cell (cell_of row) q) (Some row) (row_at (latest_rows store) q))
  last_of q true same =
      ap (λ c. write_seen (latest (versions_at new c))) (sym (same_cell_same (cell_of row) q same)) ∙ ap (λ vs. write_seen (latest vs)) done.here
      ∙ sym (ap (λ b. option_map made_before (cond b (Some row) (row_at (latest_rows store) q))) same)
  last_of q false apart =
      ap (λ o. write_seen (latest (items_of o))) (done.others q apart) ∙ before.written q ∙ sym (ap (λ b. option_map made_before (cond b (Some row) (row_at (latest_rows store) q))) apart)

  rises : IsRising cell_of (latest_rows store ++ row ∷ rest)
  rises = subst (IsRising cell_of) (sym before.loaded) before.rising

  still : (rs : List StoredRow) → AreAbove cell_of (cell_of row) rs → AllByRecursion (λ r. versions_at store (cell_of r) ≡ []) rs → AllByRecursion (λ r. versions_at new (cell_of r) ≡ []) rs
  still [] above all = tt
  still (r ∷ rs) above all = (ap items_of (done.others (cell_of r) (ap is_eq above.0)) ∙ all.0, still rs above.1 all.1)

  there : row_at rows (cell_of row) ≡ Some row
  there = subst (λ rs. row_at rs (cell_of row) ≡ Some row) before.loaded (found_there (latest_rows store) row rest rises)

  by_test : (q : Cell) (b : Bool) → same_cell (cell_of row) q ≡ b → AllByRecursion (IsOfBase rows q) (versions_at new q)
  by_test q true same = subst (λ c. AllByRecursion (IsOfBase rows c) (versions_at new c)) (same_cell_same (cell_of row) q same)
      (subst (AllByRecursion (IsOfBase rows (cell_of row))) (sym done.here) (record { mark = refl; value = row.value; puts = refl; row = there }, tt))
  by_test q false apart = subst (λ o. AllByRecursion (IsOfBase rows q) (items_of o)) (sym (done.others q apart)) (before.firsts q)

-- what holds of all versions holds of the last one
pub all_latest : (P : Version → Type 0) (vs : List Version) (v : Version) → AllByRecursion P vs → latest vs ≡ Some v → P v
all_latest P [] v all is = absurd (none_some is)
all_latest P (w ∷ ws) v all is = by_rest (latest ws) refl (all_latest P ws v all.1) where
  by_rest : (o : Option Version) → latest ws ≡ o → (latest ws ≡ Some v → P v) → P v
  by_rest None none later = subst P (some_same (sym (rw none refl) ∙ is)) all.0
  by_rest (Some u) found later = later (found ∙ sym (rw found refl) ∙ is)
