-- The last writer of a key and its last write: the one names the other, unless the last write is the row of the base.
use Rattle.std.proofs.Common.{◌≡◌, ◌⊎◌, inl, inr, ℕ, Bool, true, false, cond, List, [], ◌∷◌, Option, Some, None, option_map, refl, sym, ap, ◌∙◌, subst}
use Rattle.std.proofs.lemmas.Bool.{both_ways}
use Rattle.std.specs.List.{AllByRecursion}
use Rattle.ltx_model.specs.declared.rows.StoredRow.{StoredRow}
use Rattle.ltx_model.specs.declared.writes.Write.{Write}
use Rattle.ltx_model.specs.Lists.{or_else}
use Rattle.ltx_model.specs.Keys.{Cell, same_cell}
use Rattle.ltx_model.specs.StoredRows.{cell_of, row_at}
use Rattle.ltx_model.specs.Operations.{Transaction, operations, cell_of_write, writes_key, writes_of}
use Rattle.ltx_model.specs.LastWrites.{LastWrite, write_of_key, made_by, made_before, over, last_write_from, last_write}
use Rattle.ltx_model.specs.Batches.{last_writer_from, last_writer}
use Rattle.ltx_model.specs.States.{LiveBatch}
use Rattle.ltx_lemmas.proofs.Lists.{some_same, none_some, find_any, find_none_from, any_not_all, all_find}
use Rattle.ltx_lemmas.proofs.Searches.{is_written_of}

-- the write of a key that a transaction wrote, or none
wrote : (cell : Cell) (t : Transaction) → writes_key (operations t) cell ≡ true → (w : Write) × (write_of_key (writes_of (operations t)) cell ≡ Some w)
wrote cell t e = find_any (λ (w : Write). same_cell (cell_of_write w) cell) (writes_of (operations t)) (is_written_of cell (operations t) ∙ e)

silent : (cell : Cell) (t : Transaction) → writes_key (operations t) cell ≡ false → write_of_key (writes_of (operations t)) cell ≡ None
silent cell t e = let test : Write → Bool = λ w. same_cell (cell_of_write w) cell in find_none_from test (writes_of (operations t)) (any_not_all test (writes_of (operations t)) (is_written_of cell (operations t) ∙ e))

-- the last write after a transaction that wrote the key is its own, and else the one before it
over_own : (last : Option LastWrite) (cell : Cell) (t : Transaction) → writes_key (operations t) cell ≡ true → (w : LastWrite) × (over last cell t ≡ Some w) × (w.writer ≡ t.number)
over_own last cell t e = let (w, is) = wrote cell t e in (made_by t.number w, ap (λ (o : Option Write). or_else (option_map (made_by t.number) o) last) is, refl)

over_silent : (last : Option LastWrite) (cell : Cell) (t : Transaction) → writes_key (operations t) cell ≡ false → over last cell t ≡ last
over_silent last cell t e = ap (λ (o : Option Write). or_else (option_map (made_by t.number) o) last) (silent cell t e)

-- a last write with this writer
abbrev pub IsBy : Option LastWrite → ℕ → Type 0
IsBy o n = (w : LastWrite) × (o ≡ Some w) × (w.writer ≡ n)

-- there is no such writer yet, or the last write is the writer's
abbrev Agrees : Option ℕ → Option LastWrite → Type 0
Agrees None last = Unit {0}
Agrees (Some n) last = IsBy last n

named_from : (writer : Option ℕ) (last : Option LastWrite) (cell : Cell) (ts : List Transaction) (n : ℕ) → Agrees writer last → last_writer_from writer cell ts ≡ Some n → IsBy (last_write_from last cell ts) n
named_from writer last cell [] n agrees e = subst (λ o. Agrees o last) e agrees
named_from writer last cell (t ∷ ts) n agrees e = by_test (writes_key (operations t) cell) refl e (λ o l. named_from o l cell ts n) where
  by_test : (b : Bool) → writes_key (operations t) cell ≡ b → last_writer_from (cond b (Some t.number) writer) cell ts ≡ Some n
      → ((o : Option ℕ) (l : Option LastWrite) → Agrees o l → last_writer_from o cell ts ≡ Some n → IsBy (last_write_from l cell ts) n) → IsBy (last_write_from (over last cell t) cell ts) n
  by_test true is h later = later (Some t.number) (over last cell t) (over_own last cell t is) h
  by_test false is h later = later writer (over last cell t) (subst (Agrees writer) (sym (over_silent last cell t is)) agrees) h

-- The last writer of a key is named by its last write.
pub last_named : (base : List StoredRow) (i : LiveBatch) (cell : Cell) (n : ℕ) → last_writer i cell ≡ Some n → IsBy (last_write base i.snapshot cell) n
unfolding last_write
last_named base i cell n e = named_from None (option_map made_before (row_at base cell)) cell i.snapshot n tt e

told_from : (writer : Option ℕ) (last : Option LastWrite) (cell : Cell) (ts : List Transaction) (w : LastWrite) → last_write_from last cell ts ≡ Some w
    → (last_writer_from writer cell ts ≡ Some w.writer) ⊎ ((last ≡ Some w) × (last_writer_from writer cell ts ≡ writer))
told_from writer last cell [] w e = inr (e, refl)
told_from writer last cell (t ∷ ts) w e = by_test (writes_key (operations t) cell) refl (λ o. told_from o (over last cell t) cell ts w e) where
  by_test : (b : Bool) → writes_key (operations t) cell ≡ b → ((o : Option ℕ) → (last_writer_from o cell ts ≡ Some w.writer) ⊎ ((over last cell t ≡ Some w) × (last_writer_from o cell ts ≡ o)))
      → (last_writer_from (cond b (Some t.number) writer) cell ts ≡ Some w.writer) ⊎ ((last ≡ Some w) × (last_writer_from (cond b (Some t.number) writer) cell ts ≡ writer))
  by_test true is later = own (later (Some t.number)) where
    own : (last_writer_from (Some t.number) cell ts ≡ Some w.writer) ⊎ ((over last cell t ≡ Some w) × (last_writer_from (Some t.number) cell ts ≡ Some t.number))
        → (last_writer_from (Some t.number) cell ts ≡ Some w.writer) ⊎ ((last ≡ Some w) × (last_writer_from (Some t.number) cell ts ≡ writer))
    own (inl h) = inl h
    own (inr h) =
        let (made, made_is, number) = over_own last cell t is in
        let same : made ≡ w = some_same (sym made_is ∙ h.0) in
        inl (h.1 ∙ ap Some (sym number ∙ ap (λ (x : LastWrite). x.writer) same))
  by_test false is later = other (later writer) where
    other : (last_writer_from writer cell ts ≡ Some w.writer) ⊎ ((over last cell t ≡ Some w) × (last_writer_from writer cell ts ≡ writer)) → (last_writer_from writer cell ts ≡ Some w.writer) ⊎ ((last ≡ Some w) × (last_writer_from writer cell ts ≡ writer))
    other (inl h) = inl h
    other (inr h) = inr (sym (over_silent last cell t is) ∙ h.0, h.1)

before_row : (base : List StoredRow) (cell : Cell) (w : LastWrite) (P : ℕ → Type 0) → AllByRecursion (λ row. P row.writer) base → option_map made_before (row_at base cell) ≡ Some w → P w.writer
before_row base cell w P all e = by_row (row_at base cell) refl e where
  by_row : (o : Option StoredRow) → row_at base cell ≡ o → option_map made_before o ≡ Some w → P w.writer
  by_row None is h = absurd (none_some h)
  by_row (Some row) is h = subst (λ (x : LastWrite). P x.writer) (some_same h) (all_find (λ (r : StoredRow). P r.writer) (λ (r : StoredRow). same_cell (cell_of r) cell) base row all is)

-- The last write of a key names its last writer, unless it is a row of the base: whoever passes a test that no writer of a row passes is the last writer.
pub last_told : (base : List StoredRow) (i : LiveBatch) (cell : Cell) (w : LastWrite) (test : ℕ → Bool) → AllByRecursion (λ row. test row.writer ≡ false) base → last_write base i.snapshot cell ≡ Some w → test w.writer ≡ true
    → last_writer i cell ≡ Some w.writer
unfolding last_write
last_told base i cell w test strangers e passes = by_place (told_from None (option_map made_before (row_at base cell)) cell i.snapshot w e) where
  by_place : (last_writer i cell ≡ Some w.writer) ⊎ ((option_map made_before (row_at base cell) ≡ Some w) × (last_writer i cell ≡ None)) → last_writer i cell ≡ Some w.writer
  by_place (inl h) = h
  by_place (inr h) = absurd (both_ways (test w.writer) (before_row base cell w (λ n. test n ≡ false) strangers h.0) passes)
