-- A transaction in the middle of an order, whose writes are installed unless a later one wrote the key's last version: the store has the rows and the last writes of the order with it.
use Rattle.std.proofs.Common.{◌≡◌, ℕ, ◌+◌, Bool, true, false, not, ◌&&◌, ◌==◌, cond, List, [], ◌∷◌, ◌++◌, map, length, Option, Some, None, option_map, is_some, refl, sym, ap, ◌∙◌, subst, append-nil, append_assoc, Contains}
use Rattle.std.proofs.lemmas.List.{map-append}
use Rattle.std.specs.List.{AllByRecursion, list_any}
use Rattle.ltx_model.specs.declared.rows.StoredRow.{StoredRow}
use Rattle.ltx_model.specs.declared.writes.Write.{Write}
use Rattle.ltx_model.specs.Lists.{or_else, before_first}
use Rattle.ltx_model.specs.Keys.{Cell, same_cell, IsRising}
use Rattle.ltx_model.specs.StoredRows.{cell_of, row_at}
use Rattle.ltx_model.specs.Operations.{Transaction, operations, cell_of_write, writes_key, writes_of}
use Rattle.ltx_model.specs.Rows.{rows_after_put, rows_after_writes, rows_after_transaction, run}
use Rattle.ltx_model.specs.LastWrites.{LastWrite, made_by, made_before, over, last_write_from, last_write}
use Rattle.ltx_model.specs.Listings.{is_member}
use Rattle.ltx_model.specs.Decisions.{stands_before, is_installed}
use Rattle.ltx_model.proofs.CellOrder.{same_cell_same}
use Rattle.ltx_model.proofs.ItemsAt.{item_at-filter}
use Rattle.ltx_model.proofs.OneMore.{run-append, run-one}
use Rattle.ltx_model.proofs.Rising.{item_at-above, rising_filter}
use Rattle.ltx_model.proofs.RowsAt.{row_at-put, row_at-without}
use Rattle.ltx_lemmas.proofs.LastWrites.{rising_after_writes, rising_writes}
use Rattle.ltx_lemmas.proofs.Lists.{true_false, all_contains, all_find, any_not_all, contains_here, contains_back}
use Rattle.ltx_lemmas.proofs.Rising.{rising_run, same_rows}
use Rattle.ltx_lemmas.proofs.Runs.{run_agrees_at, last_writes, last_to_write}
use Rattle.ltx_lemmas.proofs.Views.{unwritten_after}
use Rattle.ltx_buffer.specs.Own.{write_at, row_under}
use Rattle.ltx_buffer.proofs.Keys.{is_own, own_row}
use Rattle.ltx_chain.specs.declared.chain.Version.{Version}
use Rattle.ltx_chain.specs.Versions as versions
use Rattle.ltx_chain.proofs.Seen.{latest-append}
use Rattle.ltx_store.specs.Kept.{Kept, versions_at, latest_rows}
use Rattle.ltx_core.specs.Installed.{version_by, last_writer, installed_writes, HasInstalledUnless}
use Rattle.ltx_core.specs.Stands.{write_seen, HasMark, HasStore}
use Rattle.ltx_core.proofs.Installed.{marks_installed}
use Rattle.ltx_core.proofs.LastSeen.{last_none, last_append}

-- these transactions do not write the key
abbrev pub AreSilent : Cell → List Transaction → Type 0
AreSilent cell ts = AllByRecursion (λ u. writes_key (operations u) cell ≡ false) ts

-- The list has the numbers of an order with a transaction between these two parts; no writer of the base is in it.
pub record IsBetween (list : List ℕ) (base : List StoredRow) (front : List Transaction) (n : ℕ) (back : List Transaction) : Type 0 where
  pub ahead : AllByRecursion (λ u. stands_before list n u.number ≡ false) front
  pub behind : AllByRecursion (λ u. stands_before list n u.number ≡ true) back
  pub strangers : AllByRecursion (λ row. is_member list row.writer ≡ false) base

-- a key that operations write or not, by their own write of it
unwritten_none : (t : Transaction) (cell : Cell) → writes_key (operations t) cell ≡ false → write_at (writes_of (operations t)) cell ≡ None
unwritten_none t cell silent = by_write (write_at (writes_of (operations t)) cell) refl where
  by_write : (o : Option Write) → write_at (writes_of (operations t)) cell ≡ o → o ≡ None
  by_write None is = refl
  by_write (Some w) is = absurd (true_false (sym (ap is_some is) ∙ is_own (operations t) cell ∙ silent))

written_some : (t : Transaction) (cell : Cell) → writes_key (operations t) cell ≡ true → (w : Write) × (write_at (writes_of (operations t)) cell ≡ Some w)
written_some t cell writes = by_write (write_at (writes_of (operations t)) cell) refl where
  by_write : (o : Option Write) → write_at (writes_of (operations t)) cell ≡ o → (w : Write) × (o ≡ Some w)
  by_write None is = absurd (true_false (sym (sym (ap is_some is) ∙ is_own (operations t) cell ∙ writes)))
  by_write (Some w) is = (w, refl)

-- transactions that do not write a key leave its last write
silent_from : (last : Option LastWrite) (cell : Cell) (ts : List Transaction) → AreSilent cell ts → last_write_from last cell ts ≡ last
silent_from last cell [] silent = refl
silent_from last cell (t ∷ ts) silent =
    silent_from (over last cell t) cell ts silent.1 ∙ ap (λ o. or_else (option_map (made_by t.number) o) last) (unwritten_none t cell silent.0)

-- the last one that writes a key makes its last write
own_last : (base : List StoredRow) (front : List Transaction) (t : Transaction) (back : List Transaction) (cell : Cell) (w : Write) → write_at (writes_of (operations t)) cell ≡ Some w → AreSilent cell back
    → last_write base (front ++ t ∷ back) cell ≡ Some (made_by t.number w)
own_last base front t back cell w is silent =
    last_append base front (t ∷ back) cell
    ∙ ap (λ o. last_write_from (or_else (option_map (made_by t.number) o) (last_write base front cell)) cell back) is
    ∙ silent_from (Some (made_by t.number w)) cell back silent

-- one that does not write it changes nothing of it
no_last : (base : List StoredRow) (front : List Transaction) (t : Transaction) (back : List Transaction) (cell : Cell) → write_at (writes_of (operations t)) cell ≡ None
    → last_write base (front ++ t ∷ back) cell ≡ last_write base (front ++ back) cell
no_last base front t back cell is =
    last_append base front (t ∷ back) cell
    ∙ ap (λ o. last_write_from (or_else (option_map (made_by t.number) o) (last_write base front cell)) cell back) is
    ∙ sym (last_append base front back cell)

-- the row of a key after writes of different keys
row_once : (tx : ℕ) (rows : List StoredRow) (w : Write) (q : Cell) (put : Option (List ℕ)) → w.put ≡ put
    → row_at (rows_after_put tx rows (cell_of_write w) put) q ≡ cond (same_cell (cell_of_write w) q) (row_under tx (Some w) None) (row_at rows q)
row_once tx rows w q None e = row_at-without rows (cell_of_write w) q ∙ rw e refl
row_once tx rows w q (Some value) e = row_at-put (record { table = w.table; key = w.key; value = value; writer = tx }) rows q ∙ rw e refl

row_after_writes : (tx : ℕ) (rows : List StoredRow) (ws : List Write) (q : Cell) → IsRising cell_of_write ws → row_at (rows_after_writes tx rows ws) q ≡ row_under tx (write_at ws q) (row_at rows q)
row_after_writes tx rows [] q rising = refl
row_after_writes tx rows (w ∷ ws) q rising =
    row_after_writes tx (rows_after_put tx rows (cell_of_write w) w.put) ws q rising.1 ∙ by_test (same_cell (cell_of_write w) q) refl where
      none : same_cell (cell_of_write w) q ≡ true → write_at ws q ≡ None
      none e = subst (λ c. write_at ws c ≡ None) (same_cell_same (cell_of_write w) q e) (item_at-above cell_of_write (cell_of_write w) ws rising.0)

      by_test : (b : Bool) → same_cell (cell_of_write w) q ≡ b
          → row_under tx (write_at ws q) (row_at (rows_after_put tx rows (cell_of_write w) w.put) q) ≡ row_under tx (cond b (Some w) (write_at ws q)) (row_at rows q)
      by_test true e =
          ap (λ o. row_under tx o (row_at (rows_after_put tx rows (cell_of_write w) w.put) q)) (none e)
          ∙ row_once tx rows w q w.put refl ∙ ap (λ b. cond b (row_under tx (Some w) None) (row_at rows q)) e
      by_test false e = ap (row_under tx (write_at ws q)) (row_once tx rows w q w.put refl ∙ ap (λ b. cond b (row_under tx (Some w) None) (row_at rows q)) e)

-- the writer of a last write, where there is one
abbrev writer_of : Option LastWrite → Option ℕ
writer_of o = option_map (λ l. l.writer) o

seen_writer : (o : Option Version) → option_map (λ (v : Version). v.writer) o ≡ writer_of (write_seen o)
seen_writer None = refl
seen_writer (Some v) = refl

base_writer : (o : Option StoredRow) → writer_of (option_map made_before o) ≡ option_map (λ (r : StoredRow). r.writer) o
base_writer None = refl
base_writer (Some r) = refl

-- Whether a transaction's write of a key is installed: exactly where none behind it writes the key.
module _ (list : List ℕ) (base : List StoredRow) (front : List Transaction) (n : ℕ) (back : List Transaction) (at : IsBetween list base front n back) (cell : Cell) where
  -- the last write of one in a part
  last_in : (fs : List Transaction) (u : Transaction) (bs : List Transaction) → writes_key (operations u) cell ≡ true → AreSilent cell bs → writer_of (last_write base (fs ++ u ∷ bs) cell) ≡ Some u.number
  last_in fs u bs writes silent = let own = written_some u cell writes in ap writer_of (own_last base fs u bs cell own.0 own.1 silent)

  -- one behind it writes the key
  module _ (fs : List Transaction) (u : Transaction) (bs : List Transaction) (parts : back ≡ fs ++ u ∷ bs) (writes : writes_key (operations u) cell ≡ true) (silent : AreSilent cell bs) where
    joined : front ++ back ≡ (front ++ fs) ++ u ∷ bs
    joined = ap (λ l. front ++ l) parts ∙ sym (append_assoc front fs (u ∷ bs))

    joined_with : (t : Transaction) → front ++ t ∷ back ≡ (front ++ t ∷ fs) ++ u ∷ bs
    joined_with t = ap (λ l. front ++ t ∷ l) parts ∙ sym (append_assoc front (t ∷ fs) (u ∷ bs))

    later_writer : is_installed list (writer_of (last_write base (front ++ back) cell)) n ≡ false
    later_writer =
        let here : Contains back u = subst (λ l. Contains l u) (sym parts) (contains_back fs (u ∷ bs) u (contains_here u bs)) in
        ap (λ l. is_installed list (writer_of (last_write base l cell)) n) joined
        ∙ ap (λ o. is_installed list o n) (last_in (front ++ fs) u bs writes silent)
        ∙ ap not (all_contains (λ v. stands_before list n v.number ≡ true) back u at.behind here)

    later_last : (t : Transaction) → last_write base (front ++ t ∷ back) cell ≡ last_write base (front ++ back) cell
    later_last t =
        let own = written_some u cell writes in
        ap (λ l. last_write base l cell) (joined_with t) ∙ own_last base (front ++ t ∷ fs) u bs cell own.0 own.1 silent
        ∙ sym (ap (λ l. last_write base l cell) joined ∙ own_last base (front ++ fs) u bs cell own.0 own.1 silent)

    later_row : (t : Transaction) → row_at (run base (front ++ t ∷ back)) cell ≡ row_at (run base (front ++ back)) cell
    later_row t =
        ap (λ l. row_at (run base l) cell) (joined_with t) ∙ last_writes cell base (front ++ t ∷ fs) u bs writes silent
        ∙ sym (ap (λ l. row_at (run base l) cell) joined ∙ last_writes cell base (front ++ fs) u bs writes silent)

  -- none behind it writes the key
  module _ (silent : AreSilent cell back) where
    before_it : last_write base (front ++ back) cell ≡ last_write base front cell
    before_it = last_append base front back cell ∙ silent_from (last_write base front cell) cell back silent

    of_base : AreSilent cell front → last_write base front cell ≡ option_map made_before (row_at base cell)
    of_base none = last_append base [] front cell ∙ silent_from (last_write base [] cell) cell front none ∙ last_none base cell

    no_member : (o : Option StoredRow) → row_at base cell ≡ o → is_installed list (option_map (λ (r : StoredRow). r.writer) o) n ≡ true
    no_member None is = refl
    no_member (Some r) is =
        ap (λ b. not (b && is_member (before_first (λ m. m == r.writer) list) n))
        (all_find (λ (x : StoredRow). is_member list x.writer ≡ false) (λ (x : StoredRow). same_cell (cell_of x) cell) base r at.strangers is)

    earlier_writer : is_installed list (writer_of (last_write base (front ++ back) cell)) n ≡ true
    earlier_writer = ap (λ o. is_installed list (writer_of o) n) before_it ∙ by_test (list_any (λ u. writes_key (operations u) cell) front) refl where
      by_test : (b : Bool) → list_any (λ u. writes_key (operations u) cell) front ≡ b → is_installed list (writer_of (last_write base front cell)) n ≡ true
      by_test true some =
          let found = last_to_write cell front some in
          let here : Contains front found.1 = subst (λ l. Contains l found.1) (sym found.3) (contains_back found.0 (found.1 ∷ found.2) found.1 (contains_here found.1 found.2)) in
          ap (λ l. is_installed list (writer_of (last_write base l cell)) n) found.3
          ∙ ap (λ o. is_installed list o n) (last_in found.0 found.1 found.2 found.4 found.5)
          ∙ ap not (all_contains (λ v. stands_before list n v.number ≡ false) front found.1 at.ahead here)
      by_test false none =
          ap (λ o. is_installed list (writer_of o) n) (of_base (any_not_all (λ u. writes_key (operations u) cell) front none))
          ∙ ap (λ o. is_installed list o n) (base_writer (row_at base cell))
          ∙ no_member (row_at base cell) refl

-- What holds of a key: the transaction does not write it; or one behind it does, and nothing of it changes; or it writes it last.
module _ (list : List ℕ) (base : List StoredRow) (front : List Transaction) (t : Transaction) (back : List Transaction) (at : IsBetween list base front t.number back) (rising : IsRising cell_of base) (old new : List Kept) (mark : ℕ)
    (done : HasInstalledUnless list old new t.number mark (writes_of (operations t))) (seen : (cell : Cell) → write_seen (versions.latest (versions_at old cell)) ≡ last_write base (front ++ back) cell)
    (rows : latest_rows old ≡ run base (front ++ back)) where
  abbrev writes : List Write
  writes = writes_of (operations t)

  abbrev Holds : Cell → Type 0
  Holds q = (row_under t.number (write_at (installed_writes list old t.number writes) q) (row_at (run base (front ++ back)) q) ≡ row_at (run base (front ++ t ∷ back)) q)
      × (write_seen (versions.latest (versions_at new q)) ≡ last_write base (front ++ t ∷ back) q)

  test_is : (q : Cell) → is_installed list (last_writer old q) t.number ≡ is_installed list (writer_of (last_write base (front ++ back) q)) t.number
  test_is q = ap (λ o. is_installed list o t.number) (seen_writer (versions.latest (versions_at old q)) ∙ ap writer_of (seen q))

  picked : (q : Cell) → write_at (installed_writes list old t.number writes) q ≡ cond (is_installed list (last_writer old q) t.number) (write_at writes q) None
  picked q = item_at-filter cell_of_write (λ c. is_installed list (last_writer old c) t.number) writes q

  -- nothing is installed
  left_out : (q : Cell) → write_at (installed_writes list old t.number writes) q ≡ None → row_at (run base (front ++ back)) q ≡ row_at (run base (front ++ t ∷ back)) q
      → last_write base (front ++ t ∷ back) q ≡ last_write base (front ++ back) q → Holds q
  left_out q none row last = (
    ap (λ o. row_under t.number o (row_at (run base (front ++ back)) q)) none ∙ row,
    ap (λ vs. write_seen (versions.latest vs)) (done.versions q ∙ ap (λ o. versions_at old q ++ version_by t.number mark o) none ∙ append-nil (versions_at old q)) ∙ seen q ∙ sym last,
  )

  unwritten_row : (q : Cell) → writes_key (operations t) q ≡ false → row_at (run base (front ++ back)) q ≡ row_at (run base (front ++ t ∷ back)) q
  unwritten_row q silent =
      ap (λ rs. row_at rs q) (run-append base front back)
      ∙ run_agrees_at q (run base front) (rows_after_transaction (run base front) t) back (sym (unwritten_after t.number (run base front) (operations t) q silent))
      ∙ sym (ap (λ rs. row_at rs q) (run-append base front (t ∷ back) ∙ run-one (run base front) t back))

  none_of_both : (b : Bool) (o : Option Write) → o ≡ None → cond b o None ≡ None
  none_of_both true o none = none
  none_of_both false o none = refl

  by_case : (q : Cell) → Holds q
  by_case q = by_own (writes_key (operations t) q) refl where
    by_later : writes_key (operations t) q ≡ true → (b : Bool) → list_any (λ u. writes_key (operations u) q) back ≡ b → Holds q
    by_later own true some =
        let found = last_to_write q back some in
        let no : is_installed list (last_writer old q) t.number ≡ false = test_is q ∙ later_writer list base front t.number back at q found.0 found.1 found.2 found.3 found.4 found.5 in
        left_out q (picked q ∙ ap (λ b. cond b (write_at writes q) None) no) (sym (later_row list base front t.number back at q found.0 found.1 found.2 found.3 found.4 found.5 t))
        (later_last list base front t.number back at q found.0 found.1 found.2 found.3 found.4 found.5 t)
    by_later own false none =
        let silent : AreSilent q back = any_not_all (λ u. writes_key (operations u) q) back none in
        let some = written_some t q own in
        let made : Version = record { writer = t.number; mark = mark; put = some.0.put } in
        let is : write_at (installed_writes list old t.number writes) q ≡ Some some.0 = picked q ∙ ap (λ b. cond b (write_at writes q) None) (test_is q ∙ earlier_writer list base front t.number back at q silent) ∙ some.1 in (
          ap (λ o. row_under t.number o (row_at (run base (front ++ back)) q)) is
              ∙ sym (own_row t.number [] (operations t) q tt ∙ ap (λ o. row_under t.number o None) some.1)
              ∙ sym (last_writes q base front t back own silent),
          ap write_seen (ap versions.latest (done.versions q ∙ ap (λ o. versions_at old q ++ version_by t.number mark o) is) ∙ latest-append (versions_at old q) made)
              ∙ sym (own_last base front t back q some.0 some.1 silent),
        )

    by_own : (b : Bool) → writes_key (operations t) q ≡ b → Holds q
    by_own true own = by_later own (list_any (λ u. writes_key (operations u) q) back) refl
    by_own false silent =
        let none : write_at writes q ≡ None = unwritten_none t q silent in
        left_out q (picked q ∙ none_of_both (is_installed list (last_writer old q) t.number) (write_at writes q) none)
        (unwritten_row q silent) (no_last base front t back q none)

  -- the rows with it in its place
  pub rows_unless : latest_rows new ≡ run base (front ++ t ∷ back)
  rows_unless =
      let ws = installed_writes list old t.number writes in
      let before : IsRising cell_of (run base (front ++ back)) = rising_run base (front ++ back) rising in
      let ordered : IsRising cell_of_write ws = rising_filter cell_of_write (λ w. is_installed list (last_writer old (cell_of_write w)) t.number) writes (rising_writes [] (operations t) tt) in
      done.rows ∙ ap (λ rs. rows_after_writes t.number rs ws) rows
      ∙ same_rows (rows_after_writes t.number (run base (front ++ back)) ws) (run base (front ++ t ∷ back)) (rising_after_writes t.number (run base (front ++ back)) ws before) (rising_run base (front ++ t ∷ back) rising)
      (λ q. row_after_writes t.number (run base (front ++ back)) ws q ordered ∙ (by_case q).0)

  pub written_unless : (cell : Cell) → write_seen (versions.latest (versions_at new cell)) ≡ last_write base (front ++ t ∷ back) cell
  written_unless cell = (by_case cell).1

-- The store after a commit in the middle of the order.
pub store_unless : (list : List ℕ) (base : List StoredRow) (front : List Transaction) (t : Transaction) (back commits : List Transaction) (old new : List Kept) (mark : ℕ) → IsRising cell_of base
    → IsBetween list base front t.number back → mark ≡ length (map (λ (u : Transaction). u.number) commits) + 1 → HasStore old base (run base (front ++ back)) (front ++ back) commits
    → HasInstalledUnless list old new t.number mark (writes_of (operations t)) → HasStore new base (run base (front ++ t ∷ back)) (front ++ t ∷ back) (commits ++ t ∷ [])
store_unless list base front t back commits old new mark rising at mark_is store done = record {
  rows = rows_unless list base front t back at rising old new mark done store.written store.rows;
  written = written_unless list base front t back at rising old new mark done store.written store.rows;
  marks = subst (λ ns. (cell : Cell) → AllByRecursion (HasMark base ns cell) (versions_at new cell)) (sym (map-append (λ (u : Transaction). u.number) commits (t ∷ [])))
      (marks_installed base old new (map (λ u. u.number) commits) t.number mark (installed_writes list old t.number (writes_of (operations t))) mark_is done store.marks);
}
