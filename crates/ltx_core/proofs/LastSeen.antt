-- The last write of a key in an order of transactions: what one transaction more changes of it, what row it leaves, and what a look that tells it says of that row.
use Rattle.std.proofs.Common.{◌≡◌, ℕ, Bool, false, List, [], ◌∷◌, ◌++◌, map, Option, Some, None, option_map, is_none, refl, sym, ap, ◌∙◌, subst}
use Rattle.std.specs.List.{AllByRecursion}
use Rattle.ltx_model.specs.declared.rows.StoredRow.{StoredRow}
use Rattle.ltx_model.specs.declared.writes.Look.{Look}
use Rattle.ltx_model.specs.declared.writes.Write.{Write}
use Rattle.ltx_model.specs.declared.looked.Noted.{Noted}
use Rattle.ltx_model.specs.declared.looked.Reach.{Reach}
use Rattle.ltx_model.specs.declared.looked.Reach.TheVariants.{Nothing, Point, Range}
use Rattle.ltx_model.specs.declared.commands.Op.{Op}
use Rattle.ltx_model.specs.declared.commands.Op.TheVariants.{Get, Scan, Put, Del}
use Rattle.ltx_model.specs.Lists.{Numbered, or_else}
use Rattle.ltx_model.specs.Keys.{Cell, IsRising}
use Rattle.ltx_model.specs.StoredRows.{cell_of, row_at, writer_at}
use Rattle.ltx_model.specs.Operations.{Transaction, operations, writes_of}
use Rattle.ltx_model.specs.Rows.{rows_after_transaction, run}
use Rattle.ltx_model.specs.LastWrites.{LastWrite, made_by, made_before, over, last_write_from, last_write}
use Rattle.ltx_model.specs.Notes.{found_by, IsLook, IsPointBy, IsReachBy, IsNoteBy, AreNotesBy}
use Rattle.ltx_model.specs.Decisions.{IsAskedLook}
use Rattle.ltx_model.specs.States.{Step}
use Rattle.ltx_model.proofs.OneMore.{run-none, run-one}
use Rattle.ltx_lemmas.proofs.Lists.{none_some, true_false}
use Rattle.ltx_lemmas.proofs.Rising.{rising_transaction}
use Rattle.ltx_buffer.specs.Own.{write_at, row_under}
use Rattle.ltx_buffer.proofs.Keys.{own_row}
use Rattle.ltx_chain.specs.declared.chain.Version.{Version}
use Rattle.ltx_chain.specs.Versions.{visible}
use Rattle.ltx_store.specs.Kept.{Kept, versions_at}
use Rattle.ltx_store.specs.Scans.{look_of_version}
use Rattle.ltx_open.specs.Operations.{IsSeenLook}
use Rattle.ltx_core.specs.Stands.{everybody, write_seen}

-- nobody, or several one after another
pub last_none : (base : List StoredRow) (cell : Cell) → last_write base [] cell ≡ option_map made_before (row_at base cell)
unfolding last_write
last_none base cell = refl

from_append : (last : Option LastWrite) (cell : Cell) (xs ys : List Transaction) → last_write_from last cell (xs ++ ys) ≡ last_write_from (last_write_from last cell xs) cell ys
from_append last cell [] ys = refl
from_append last cell (x ∷ xs) ys = from_append (over last cell x) cell xs ys

pub last_append : (base : List StoredRow) (xs ys : List Transaction) (cell : Cell) → last_write base (xs ++ ys) cell ≡ last_write_from (last_write base xs cell) cell ys
unfolding last_write
last_append base xs ys cell = from_append (option_map made_before (row_at base cell)) cell xs ys

pub last_push : (base : List StoredRow) (ts : List Transaction) (t : Transaction) (cell : Cell) → last_write base (ts ++ t ∷ []) cell ≡ over (last_write base ts cell) cell t
last_push base ts t cell = last_append base ts (t ∷ []) cell

-- the writer of the row that a last write leaves
abbrev pub writer_by : Option LastWrite → Option ℕ
writer_by None = None
writer_by (Some w) = found_by (record { key = []; writer = w.writer; gone = w.gone })

writer_made : (n : ℕ) (w : Write) (put : Option (List ℕ)) → w.put ≡ put → option_map (λ (r : StoredRow). r.writer) (option_map (λ value. record { table = w.table; key = w.key; value = value; writer = n }) put) ≡ writer_by (Some (record { writer = n; gone = is_none put }))
writer_made n w None is = refl
writer_made n w (Some value) is = refl

writer_over : (n : ℕ) (o : Option Write) (row : Option StoredRow) (last : Option LastWrite) → option_map (λ (r : StoredRow). r.writer) row ≡ writer_by last
    → option_map (λ (r : StoredRow). r.writer) (row_under n o row) ≡ writer_by (or_else (option_map (made_by n) o) last)
writer_over n None row last is = is
writer_over n (Some w) row last is = writer_made n w w.put refl

run_writer : (rows : List StoredRow) (cell : Cell) (last : Option LastWrite) (ts : List Transaction) → IsRising cell_of rows → writer_at rows cell ≡ writer_by last → writer_at (run rows ts) cell ≡ writer_by (last_write_from last cell ts)
run_writer rows cell last [] rising is = ap (λ rs. writer_at rs cell) (run-none rows) ∙ is
run_writer rows cell last (t ∷ ts) rising is =
    ap (λ rs. writer_at rs cell) (run-one rows t ts)
    ∙ run_writer (rows_after_transaction rows t) cell (over last cell t) ts (rising_transaction rows t rising)
    (ap (option_map (λ (r : StoredRow). r.writer)) (own_row t.number rows (operations t) cell rising) ∙ writer_over t.number (write_at (writes_of (operations t)) cell) (row_at rows cell) last is)

writer_before : (row : Option StoredRow) → option_map (λ (r : StoredRow). r.writer) row ≡ writer_by (option_map made_before row)
writer_before None = refl
writer_before (Some row) = refl

-- the writer of a key's row after transactions is that of its last write, where this is no deletion
pub writer_is : (base : List StoredRow) (ts : List Transaction) (cell : Cell) → IsRising cell_of base → writer_at (run base ts) cell ≡ writer_by (last_write base ts cell)
unfolding last_write
writer_is base ts cell rising = run_writer base cell (option_map made_before (row_at base cell)) ts rising (writer_before (row_at base cell))

-- a look that tells the last write names the writer of the row
pub asked_is_look : (base : List StoredRow) (ts : List Transaction) (cell : Cell) (look : Option Look) → IsRising cell_of base → IsAskedLook everybody (last_write base ts) cell look → IsLook (run base ts) cell look
asked_is_look base ts cell None rising asked = by_last (last_write base ts cell) refl (asked) where
  by_last : (last : Option LastWrite) → last_write base ts cell ≡ last → ((w : LastWrite) → last_write base ts cell ≡ Some w → everybody w.writer ≡ false) → writer_at (run base ts) cell ≡ None
  by_last None is all = writer_is base ts cell rising ∙ ap writer_by is
  by_last (Some w) is all = absurd (true_false (all w is))
asked_is_look base ts cell (Some look) rising asked = (asked.0, sym (writer_is base ts cell rising ∙ ap writer_by asked.1))

-- a look of the version that is seen tells the last write, where that version does
pub seen_is_asked : (kept : List Kept) (mark : ℕ) (last : Cell → Option LastWrite) (cell : Cell) (look : Option Look) → write_seen (visible mark (versions_at kept cell)) ≡ last cell → IsSeenLook kept mark cell look
    → IsAskedLook everybody last cell look
seen_is_asked kept mark last cell look tells is = by_version (visible mark (versions_at kept cell)) tells look is where
  by_version : (v : Option Version) → write_seen v ≡ last cell → (l : Option Look) → l ≡ look_of_version cell.key v → IsAskedLook everybody last cell l
  by_version None tells l is = subst (IsAskedLook everybody last cell) (sym is) (λ w there. absurd (none_some (tells ∙ there)))
  by_version (Some v) tells l is = subst (IsAskedLook everybody last cell) (sym is) (refl, sym tells)

-- notes under a relation that says less
module _ (tells says : Cell → Option Look → Type 0) (so : (cell : Cell) (look : Option Look) → tells cell look → says cell look) where
  point_so : (earlier : List Op) (cell : Cell) (look : Option Look) (own : Bool) → IsPointBy tells earlier cell look own → IsPointBy says earlier cell look own
  point_so earlier cell look own is = record { own_key = is.own_key; looked = λ no. so cell look (is.looked no) }

  reach_so : (earlier : List Op) (op : Op) (reach : Reach) → IsReachBy tells earlier op reach → IsReachBy says earlier op reach
  reach_so earlier (Get table key) (Point k look own) is = (is.0, point_so earlier (record { table = table; key = key }) look own is.1)
  reach_so earlier (Get table key) Nothing is = absurd is
  reach_so earlier (Get table key) (Range l h looks own) is = absurd is
  reach_so earlier (Scan table low high) (Range l h looks own) is = (
    is.0,
    is.1,
    record {
      looks_rising = is.2.looks_rising;
      looks_within = is.2.looks_within;
      own_rising = is.2.own_rising;
      own_within = is.2.own_within;
      own_keys = is.2.own_keys;
      looked = λ key up. so (record { table = table; key = key }) _ (is.2.looked key up);
    },
  )
  reach_so earlier (Scan table low high) Nothing is = absurd is
  reach_so earlier (Scan table low high) (Point k look own) is = absurd is
  reach_so earlier (Put table key value) Nothing is = tt
  reach_so earlier (Put table key value) (Point k look own) is = absurd is
  reach_so earlier (Put table key value) (Range l h looks own) is = absurd is
  reach_so earlier (Del table key) Nothing is = tt
  reach_so earlier (Del table key) (Point k look own) is = absurd is
  reach_so earlier (Del table key) (Range l h looks own) is = absurd is

  pub note_so : (earlier : List Op) (op : Op) (note : Noted) → IsNoteBy tells earlier op note → IsNoteBy says earlier op note
  note_so earlier op note is = record { table = is.table; reach = reach_so earlier op note.reach is.reach; write = is.write }

-- of all notes
pub notes_so : (tells says : Step → Cell → Option Look → Type 0) (holds : Step → Type 0) → ((step : Step) → holds step → (cell : Cell) (look : Option Look) → tells step cell look → says step cell look)
    → (os : List (Numbered Step)) (notes : List Noted) → AllByRecursion (λ o. holds o.item) os → AreNotesBy tells os notes → AreNotesBy says os notes
notes_so tells says holds so [] [] all are = tt
notes_so tells says holds so [] (note ∷ notes) all are = absurd are
notes_so tells says holds so (o ∷ os) [] all are = absurd are
notes_so tells says holds so (o ∷ os) (note ∷ notes) all are =
    (note_so (tells o.item) (says o.item) (so o.item all.0) (map (λ b. b.op) o.earlier) o.item.op note are.0, notes_so tells says holds so os notes all.1 are.1)
