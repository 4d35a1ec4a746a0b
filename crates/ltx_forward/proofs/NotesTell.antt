-- The notes of a batch tell which keys its operations look up, and into which tables they look.
use Rattle.std.proofs.Common.{◌≡◌, ℕ, Bool, true, false, not, ◌&&◌, ◌||◌, ◌==◌, List, [], ◌∷◌, map, Option, refl, sym, ap, ◌∙◌, subst}
use Rattle.std.proofs.lemmas.Bool.{eqb-true, eq-eqb, both_ways}
use Rattle.std.specs.List.{list_any}
use Rattle.std.specs.Ordering.{is_eq, ordering_then}
use Rattle.ltx_model.specs.declared.commands.Op.{Op}
use Rattle.ltx_model.specs.declared.commands.Op.TheVariants.{Get, Scan, Put, Del}
use Rattle.ltx_model.specs.declared.looked.Noted.{Noted}
use Rattle.ltx_model.specs.declared.looked.Reach.{Reach}
use Rattle.ltx_model.specs.declared.looked.Reach.TheVariants.{Nothing, Point, Range}
use Rattle.ltx_model.specs.declared.writes.Look.{Look}
use Rattle.ltx_model.specs.Lists.{Numbered, numbered}
use Rattle.ltx_model.specs.Keys.{Cell, key_cmp, same_cell, in_range}
use Rattle.ltx_model.specs.Operations.{operations, table_of, writes_at, looks_up, looks_into, looks_up_key, looks_into_table}
use Rattle.ltx_model.specs.Notes.{asks, is_one_of, IsReachBy, IsNoteBy, AreNotesBy, note_looks_up, notes_look_up}
use Rattle.ltx_model.specs.NoteLists as note_lists
use Rattle.ltx_model.specs.NoteLists.{looks_inside}
use Rattle.ltx_model.specs.States.{Step, Active, LiveBatch, transaction_of, answered_of}
use Rattle.ltx_model.specs.Batches.{batch_operations}
use Rattle.ltx_model.proofs.Orderings.{number_itself}
use Rattle.ltx_model.proofs.CellOrder.{same_cell_same, same_cell_refl}
use Rattle.ltx_lemmas.proofs.Lists.{any_map}
use Rattle.ltx_lemmas.proofs.Searches.{numbered_map}

-- two cells are the same where their tables and their keys are
same_parts : (table : ℕ) (key : List ℕ) (cell : Cell) → ((table == cell.table) && is_eq (key_cmp key cell.key)) ≡ same_cell (record { table = table; key = key }) cell
same_parts table key cell = by_table (table == cell.table) refl where
  by_same : (b : Bool) → same_cell (record { table = table; key = key }) cell ≡ b → (table == cell.table) ≡ false → false ≡ b
  by_same false is other = refl
  by_same true is other = absurd (both_ways (table == cell.table) other (eq-eqb table cell.table (ap (λ (c : Cell). c.table) (same_cell_same (record { table = table; key = key }) cell is))))

  by_table : (b : Bool) → (table == cell.table) ≡ b → (b && is_eq (key_cmp key cell.key)) ≡ same_cell (record { table = table; key = key }) cell
  by_table false other = by_same (same_cell (record { table = table; key = key }) cell) refl other
  by_table true is =
      let one : table ≡ cell.table = eqb-true table cell.table is in
      subst (λ t. is_eq (key_cmp key cell.key) ≡ same_cell (record { table = table; key = key }) (record { table = t; key = cell.key })) one
      (sym (ap (λ o. is_eq (ordering_then o (key_cmp key cell.key))) (number_itself table)))

-- a note asks for a key where its operation looks the key up
pub note_tells : (tells : Cell → Option Look → Type 0) (earlier : List Op) (op : Op) (note : Noted) (cell : Cell) → IsNoteBy tells earlier op note → note_looks_up cell note ≡ looks_up cell earlier op
note_tells tells earlier op note cell is = ap (λ t. (t == cell.table) && asks note.reach cell.key) is.table ∙ by_reach op note.reach is.reach where
  none : (b : Bool) → (b && false) ≡ false
  none true = refl
  none false = refl

  -- a key that was got
  by_point : (table : ℕ) (key : List ℕ) (own : Bool) → own ≡ list_any (writes_at (record { table = table; key = key })) earlier
      → ((table == cell.table) && (not own && is_eq (key_cmp key cell.key))) ≡ (same_cell (record { table = table; key = key }) cell && not (list_any (writes_at cell) earlier))
  by_point table key own written = turned (table == cell.table) (not own) (is_eq (key_cmp key cell.key)) ∙ ap (λ b. b && not own) (same_parts table key cell) ∙ by_same (same_cell (record { table = table; key = key }) cell) refl where
    turned : (a b c : Bool) → (a && (b && c)) ≡ ((a && c) && b)
    turned true true c = sym (with_true c) where
      with_true : (c : Bool) → (c && true) ≡ c
      with_true true = refl
      with_true false = refl
    turned true false c = sym (none c)
    turned false b c = refl

    by_same : (b : Bool) → same_cell (record { table = table; key = key }) cell ≡ b → (b && not own) ≡ (b && not (list_any (writes_at cell) earlier))
    by_same false e = refl
    by_same true e = ap not (written ∙ ap (λ c. list_any (writes_at c) earlier) (same_cell_same (record { table = table; key = key }) cell e))

  -- a key of a range
  by_range : (table : ℕ) (low high : List ℕ) (own : List (List ℕ)) → ((key : List ℕ) → in_range low high key ≡ true → is_one_of own key ≡ list_any (writes_at (record { table = table; key = key })) earlier)
      → ((table == cell.table) && (in_range low high cell.key && not (is_one_of own cell.key))) ≡ (((cell.table == table) && in_range low high cell.key) && not (list_any (writes_at cell) earlier))
  by_range table low high own own_keys = by_table (table == cell.table) refl (cell.table == table) refl (in_range low high cell.key) refl where
    by_table : (a : Bool) → (table == cell.table) ≡ a → (b : Bool) → (cell.table == table) ≡ b → (c : Bool) → in_range low high cell.key ≡ c
        → (a && (c && not (is_one_of own cell.key))) ≡ ((b && c) && not (list_any (writes_at cell) earlier))
    by_table true is false other c inside = absurd (both_ways (cell.table == table) other (eq-eqb cell.table table (sym (eqb-true table cell.table is))))
    by_table false other true is c inside = absurd (both_ways (table == cell.table) other (eq-eqb table cell.table (sym (eqb-true cell.table table is))))
    by_table false is false other c inside = refl
    by_table true is true same false inside = refl
    by_table true is true same true inside =
        let one : table ≡ cell.table = eqb-true table cell.table is in
        ap not (own_keys cell.key inside ∙ ap (λ t. list_any (writes_at (record { table = t; key = cell.key })) earlier) one)

  by_reach : (op : Op) (reach : Reach) → IsReachBy tells earlier op reach → ((table_of op == cell.table) && asks reach cell.key) ≡ looks_up cell earlier op
  by_reach (Get table key) Nothing h = absurd h
  by_reach (Get table key) (Point k look own) h = ap (λ l. (table == cell.table) && (not own && is_eq (key_cmp l cell.key))) h.0 ∙ by_point table key own h.1.own_key
  by_reach (Get table key) (Range l g looks own) h = absurd h
  by_reach (Scan table low high) Nothing h = absurd h
  by_reach (Scan table low high) (Point k look own) h = absurd h
  by_reach (Scan table low high) (Range l g looks own) h =
      ap (λ m. (table == cell.table) && (in_range m g cell.key && not (is_one_of own cell.key))) h.0 ∙ ap (λ m. (table == cell.table) && (in_range low m cell.key && not (is_one_of own cell.key))) h.1
      ∙ by_range table low high own h.2.own_keys
  by_reach (Put table key value) Nothing h = none (table == cell.table)
  by_reach (Put table key value) (Point k look own) h = absurd h
  by_reach (Put table key value) (Range l g looks own) h = absurd h
  by_reach (Del table key) Nothing h = none (table == cell.table)
  by_reach (Del table key) (Point k look own) h = absurd h
  by_reach (Del table key) (Range l g looks own) h = absurd h

-- a note looks into a table where its operation does
pub note_looks_inside : (tells : Cell → Option Look → Type 0) (earlier : List Op) (op : Op) (note : Noted) (table : ℕ) → IsNoteBy tells earlier op note → note_lists.looks_into_table table note ≡ looks_into table earlier op
note_looks_inside tells earlier op note table is = ap (λ t. (t == table) && looks_inside note.reach) is.table ∙ by_reach op note.reach is.reach where
  none : (b : Bool) → (b && false) ≡ false
  none true = refl
  none false = refl

  with_true : (b : Bool) → (b && true) ≡ b
  with_true true = refl
  with_true false = refl

  by_reach : (op : Op) (reach : Reach) → IsReachBy tells earlier op reach → ((table_of op == table) && looks_inside reach) ≡ looks_into table earlier op
  by_reach (Get t key) Nothing h = absurd h
  by_reach (Get t key) (Point k look own) h =
      ap (λ b. (t == table) && not b) h.1.own_key ∙ ap (λ b. (t == table) && (b && not (list_any (writes_at (record { table = t; key = key })) earlier))) (sym (same_cell_refl (record { table = t; key = key })))
  by_reach (Get t key) (Range l g looks own) h = absurd h
  by_reach (Scan t low high) Nothing h = absurd h
  by_reach (Scan t low high) (Point k look own) h = absurd h
  by_reach (Scan t low high) (Range l g looks own) h = with_true (t == table)
  by_reach (Put t key value) Nothing h = none (t == table)
  by_reach (Put t key value) (Point k look own) h = absurd h
  by_reach (Put t key value) (Range l g looks own) h = absurd h
  by_reach (Del t key) Nothing h = none (t == table)
  by_reach (Del t key) (Point k look own) h = absurd h
  by_reach (Del t key) (Range l g looks own) h = absurd h

-- what each note tells of its operation, some note tells of some operation
any_tells : (tells : Step → Cell → Option Look → Type 0) (of_note : Noted → Bool) (of_op : List Op → Op → Bool)
    → ((step : Step) (earlier : List Op) (note : Noted) → IsNoteBy (tells step) earlier step.op note → of_note note ≡ of_op earlier step.op)
    → (os : List (Numbered Step)) (notes : List Noted) → AreNotesBy tells os notes → list_any of_note notes ≡ list_any (λ o. of_op (map (λ b. b.op) o.earlier) o.item.op) os
any_tells tells of_note of_op each [] [] are = refl
any_tells tells of_note of_op each [] (note ∷ notes) are = absurd are
any_tells tells of_note of_op each (o ∷ os) [] are = absurd are
any_tells tells of_note of_op each (o ∷ os) (note ∷ notes) are =
    ap (λ b. b || list_any of_note notes) (each o.item (map (λ b. b.op) o.earlier) note are.0) ∙ ap (λ b. of_op (map (λ c. c.op) o.earlier) o.item.op || b) (any_tells tells of_note of_op each os notes are.1)

-- the operations of an open transaction are those of its steps
operations_of : (steps : List Step) → map (λ a. a.op) (map answered_of steps) ≡ map (λ b. b.op) steps
operations_of [] = refl
operations_of (x ∷ xs) = ap (λ l. x.op ∷ l) (operations_of xs)

any_numbered : (of_op : List Op → Op → Bool) (i : LiveBatch) (active : Active) → transaction_of active ≡ i.tx
    → list_any (λ o. of_op (map (λ b. b.op) o.earlier) o.item.op) (numbered active.steps) ≡ list_any (λ o. of_op o.earlier o.item) (numbered (batch_operations i))
any_numbered of_op i active tx =
    let ops : map (λ b. b.op) active.steps ≡ batch_operations i = sym (operations_of active.steps) ∙ ap (λ t. operations t) tx in
    sym (any_map (λ o. of_op o.earlier o.item) (λ (o : Numbered Step). record { number = o.number; earlier = map (λ b. b.op) o.earlier; item = o.item.op }) (numbered active.steps))
    ∙ ap (λ os. list_any (λ o. of_op o.earlier o.item) os) (sym (numbered_map (λ (b : Step). b.op) active.steps))
    ∙ ap (λ ops. list_any (λ o. of_op o.earlier o.item) (numbered ops)) ops

module _ (tells : Step → Cell → Option Look → Type 0) (i : LiveBatch) (active : Active) (tx : transaction_of active ≡ i.tx) (notes : List Noted) (are : AreNotesBy tells (numbered active.steps) notes) where
  -- the notes tell which keys the batch looks up
  pub notes_tell : (cell : Cell) → notes_look_up notes cell ≡ looks_up_key (batch_operations i) cell
  notes_tell cell =
      any_tells tells (note_looks_up cell) (looks_up cell) (λ step earlier note is. note_tells (tells step) earlier step.op note cell is) (numbered active.steps) notes are
      ∙ any_numbered (looks_up cell) i active tx

  -- the notes tell into which tables it looks
  pub notes_tell_tables : (table : ℕ) → list_any (note_lists.looks_into_table table) notes ≡ looks_into_table (batch_operations i) table
  notes_tell_tables table =
      any_tells tells (note_lists.looks_into_table table) (looks_into table) (λ step earlier note is. note_looks_inside (tells step) earlier step.op note table is) (numbered active.steps) notes are
      ∙ any_numbered (looks_into table) i active tx
