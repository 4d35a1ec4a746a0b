-- A transaction in the middle of an order whose later ones write none of its keys: the rows and the last writes are those with it at the end.
use Rattle.std.proofs.Common.{◌≡◌, ℕ, Bool, true, false, List, [], ◌∷◌, ◌++◌, Option, Some, None, option_map, is_some, refl, sym, ap, ◌∙◌, append-nil}
use Rattle.std.specs.List.{AllByRecursion}
use Rattle.ltx_model.specs.declared.rows.StoredRow.{StoredRow}
use Rattle.ltx_model.specs.declared.writes.Write.{Write}
use Rattle.ltx_model.specs.Lists.{or_else}
use Rattle.ltx_model.specs.Keys.{Cell, IsRising}
use Rattle.ltx_model.specs.StoredRows.{cell_of, row_at}
use Rattle.ltx_model.specs.Operations.{Transaction, operations, writes_key, writes_of}
use Rattle.ltx_model.specs.Rows.{rows_after_transaction, run}
use Rattle.ltx_model.specs.LastWrites.{LastWrite, made_by, over, last_write_from, last_write}
use Rattle.ltx_model.proofs.OneMore.{run-append, run-one}
use Rattle.ltx_lemmas.proofs.Lists.{true_false}
use Rattle.ltx_lemmas.proofs.Rising.{rising_transaction, rising_run, same_rows}
use Rattle.ltx_lemmas.proofs.Runs.{run_agrees_at, last_writes}
use Rattle.ltx_lemmas.proofs.Views.{agree_written, unwritten_after}
use Rattle.ltx_buffer.specs.Own.{write_at}
use Rattle.ltx_buffer.proofs.Keys.{is_own}
use Rattle.ltx_chain.specs.declared.chain.Version.{Version}
use Rattle.ltx_chain.specs.Versions as versions
use Rattle.ltx_chain.proofs.Seen.{latest-append}
use Rattle.ltx_store.specs.Kept.{Kept, versions_at}
use Rattle.ltx_core.specs.Installed.{version_by, HasInstalled}
use Rattle.ltx_core.specs.Stands.{write_seen}
use Rattle.ltx_core.proofs.LastSeen.{last_append}

-- a transaction writes none of the keys that another writes
abbrev pub AreUnwritten : Transaction → List Transaction → Type 0
AreUnwritten t ts = (cell : Cell) → writes_key (operations t) cell ≡ true → AllByRecursion (λ u. writes_key (operations u) cell ≡ false) ts

-- a key that operations do not write has no own write
unwritten_none : (t : Transaction) (cell : Cell) → writes_key (operations t) cell ≡ false → write_at (writes_of (operations t)) cell ≡ None
unwritten_none t cell silent = by_write (write_at (writes_of (operations t)) cell) refl where
  by_write : (o : Option Write) → write_at (writes_of (operations t)) cell ≡ o → o ≡ None
  by_write None is = refl
  by_write (Some w) is = absurd (true_false (sym (ap is_some is) ∙ is_own (operations t) cell ∙ silent))

-- and one that has an own write is written
written_some : (t : Transaction) (cell : Cell) (w : Write) → write_at (writes_of (operations t)) cell ≡ Some w → writes_key (operations t) cell ≡ true
written_some t cell w is = sym (is_own (operations t) cell) ∙ ap is_some is

-- transactions that do not write a key leave its last write
silent_from : (last : Option LastWrite) (cell : Cell) (ts : List Transaction) → AllByRecursion (λ u. writes_key (operations u) cell ≡ false) ts → last_write_from last cell ts ≡ last
silent_from last cell [] silent = refl
silent_from last cell (t ∷ ts) silent =
    silent_from (over last cell t) cell ts silent.1 ∙ ap (λ o. or_else (option_map (made_by t.number) o) last) (unwritten_none t cell silent.0)

module _ (base : List StoredRow) (front : List Transaction) (t : Transaction) (back : List Transaction) (apart : AreUnwritten t back) where
  row_between : IsRising cell_of base → (q : Cell) → row_at (rows_after_transaction (run base (front ++ back)) t) q ≡ row_at (run base (front ++ t ∷ back)) q
  row_between rising q = by_test (writes_key (operations t) q) refl where
    by_test : (b : Bool) → writes_key (operations t) q ≡ b → row_at (rows_after_transaction (run base (front ++ back)) t) q ≡ row_at (run base (front ++ t ∷ back)) q
    by_test true writes = agree_written t.number (run base (front ++ back)) [] (operations t) q writes ∙ sym (last_writes q base front t back writes (apart q writes))
    by_test false silent =
        unwritten_after t.number (run base (front ++ back)) (operations t) q silent
        ∙ ap (λ rows. row_at rows q) (run-append base front back)
        ∙ run_agrees_at q (run base front) (rows_after_transaction (run base front) t) back (sym (unwritten_after t.number (run base front) (operations t) q silent))
        ∙ sym (ap (λ rows. row_at rows q) (run-append base front (t ∷ back) ∙ run-one (run base front) t back))

  -- the rows with it in its place are those with it at the end
  pub rows_between : IsRising cell_of base → rows_after_transaction (run base (front ++ back)) t ≡ run base (front ++ t ∷ back)
  rows_between rising =
      same_rows (rows_after_transaction (run base (front ++ back)) t) (run base (front ++ t ∷ back))
      (rising_transaction (run base (front ++ back)) t (rising_run base (front ++ back) rising)) (rising_run base (front ++ t ∷ back) rising) (row_between rising)

  -- and so are the last writes: its own where it writes the key, and else those before
  last_there : (cell : Cell) → last_write base (front ++ t ∷ back) cell ≡ last_write_from (over (last_write base front cell) cell t) cell back
  last_there cell = last_append base front (t ∷ back) cell

  last_own : (cell : Cell) (w : Write) → write_at (writes_of (operations t)) cell ≡ Some w → last_write base (front ++ t ∷ back) cell ≡ Some (made_by t.number w)
  last_own cell w is =
      last_there cell
      ∙ ap (λ o. last_write_from (or_else (option_map (made_by t.number) o) (last_write base front cell)) cell back) is
      ∙ silent_from (Some (made_by t.number w)) cell back (apart cell (written_some t cell w is))

  last_before : (cell : Cell) → write_at (writes_of (operations t)) cell ≡ None → last_write base (front ++ t ∷ back) cell ≡ last_write base (front ++ back) cell
  last_before cell is =
      last_there cell
      ∙ ap (λ o. last_write_from (or_else (option_map (made_by t.number) o) (last_write base front cell)) cell back) is
      ∙ sym (last_append base front back cell)

  -- the newest versions tell the last writes, where they did before the transaction's were installed
  pub written_between : (old new : List Kept) (mark : ℕ) → HasInstalled old new t.number mark (writes_of (operations t))
      → ((cell : Cell) → write_seen (versions.latest (versions_at old cell)) ≡ last_write base (front ++ back) cell)
      → (cell : Cell) → write_seen (versions.latest (versions_at new cell)) ≡ last_write base (front ++ t ∷ back) cell
  written_between old new mark done before cell = by_write (write_at (writes_of (operations t)) cell) refl where
    by_write : (o : Option Write) → write_at (writes_of (operations t)) cell ≡ o → write_seen (versions.latest (versions_at new cell)) ≡ last_write base (front ++ t ∷ back) cell
    by_write None is =
        ap (λ vs. write_seen (versions.latest vs)) (done.versions cell ∙ ap (λ o. versions_at old cell ++ version_by t.number mark o) is ∙ append-nil (versions_at old cell))
        ∙ before cell ∙ sym (last_before cell is)
    by_write (Some w) is =
        let made : Version = record { writer = t.number; mark = mark; put = w.put } in
        ap write_seen (ap versions.latest (done.versions cell ∙ ap (λ o. versions_at old cell ++ version_by t.number mark o) is) ∙ latest-append (versions_at old cell) made)
        ∙ sym (last_own cell w is)
