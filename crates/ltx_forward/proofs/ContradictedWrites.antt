-- The first of a batch's notes whose write a reader contradicts tells the first contradicted witness.
use Rattle.std.proofs.Common.{◌≡◌, ◌⊎◌, inl, inr, ℕ, zero, suc, ◌+◌, ◌<◌, ◌≤◌, Bool, true, false, List, [], ◌∷◌, ◌++◌, map, length, take, Option, Some, None, option_map, refl, sym, ap, ◌∙◌, subst, append_assoc, append-nil, arith, ltb, Contains, slice_get}
use Rattle.std.proofs.lemmas.Bool.{false_from_ne_true, ltb-true, ltb-false}
use Rattle.std.proofs.lemmas.Option.{slice_get-map, slice_get_within}
use Rattle.std.specs.List.{list_any}
use Rattle.ltx_model.specs.declared.commands.Op.{Op}
use Rattle.ltx_model.specs.declared.commands.Op.TheVariants.{Get, Scan, Put, Del}
use Rattle.ltx_model.specs.declared.looked.Noted.{Noted}
use Rattle.ltx_model.specs.declared.writes.Look.{Look}
use Rattle.ltx_model.specs.declared.writes.Write.{Write}
use Rattle.ltx_model.specs.Lists.{Numbered, numbered, numbered_from}
use Rattle.ltx_model.specs.Keys.{Cell}
use Rattle.ltx_model.specs.Operations.{Transaction, operations, table_of, write_of, cell_of_write, is_write_at, writes_at, unless_written, first_of_key, first_write}
use Rattle.ltx_model.specs.Agenda.{Committed, is_member, part_from, has_number}
use Rattle.ltx_model.specs.Notes.{IsNoteBy, AreNotesBy}
use Rattle.ltx_model.specs.States.{Step, answered_of, State, LiveBatch}
use Rattle.ltx_model.specs.Batches as batches
use Rattle.ltx_model.specs.Batches.{batch_operations, IsTarget, IsContradicted, IsFirstContradicted}
use Rattle.ltx_model.specs.Records.{Records}
use Rattle.ltx_model.proofs.CellOrder.{same_cell_same}
use Rattle.ltx_agenda.specs.Placed.{Listed}
use Rattle.ltx_long.specs.Longs.{Long}
use Rattle.ltx_lemmas.proofs.Lists.{some_same, none_some, true_false, any_item, contains_none, contains_here, contains_later, contains_cases, from_contains}
use Rattle.ltx_lemmas.proofs.Serials.{serial_is_member, serial_here, serial_member}
use Rattle.ltx_forward.specs.declared.decide.Live.{Live}
use Rattle.ltx_forward.specs.declared.witness.Witness.{Witness}
use Rattle.ltx_forward.specs.Asked.{IsAsked}
use Rattle.ltx_forward.specs.Contradicted.{IsContradictedReader, cell_of_note, IsSpared, IsWitnessOf}
use Rattle.ltx_forward.specs.Witnesses.{seen, IsFoundContradicted}
use Rattle.ltx_forward.proofs.ContradictedReaders.{IsContradictedAt, told_reader, reader_told, not_before}

-- ---- numbered items by their places

module _ {X : Type 0} where
  numbered_from_at : (k : ℕ) (earlier xs : List X) (j : ℕ) (x : X) → slice_get xs j ≡ Some x → Contains (numbered_from k earlier xs) (record { number = k + j; earlier = earlier ++ take j xs; item = x })
  numbered_from_at k earlier [] j x e = absurd (none_some e)
  numbered_from_at k earlier (y ∷ ys) zero x e =
      let o : Numbered X = record { number = k; earlier = earlier; item = y } in
      let number : k ≡ k + 0 = omega arith in
      let same : ◌≡◌ {A = Numbered X} o (record { number = k + 0; earlier = earlier ++ []; item = x }) = λ i. record { number = number i; earlier = sym (append-nil earlier) i; item = some_same e i } in
      subst (Contains (numbered_from k earlier (y ∷ ys))) same (contains_here o (numbered_from (k + 1) (earlier ++ y ∷ []) ys))
  numbered_from_at k earlier (y ∷ ys) (suc j) x e =
      let o : Numbered X = record { number = k; earlier = earlier; item = y } in
      let number : (k + 1) + j ≡ k + suc j = omega arith in
      let same : ◌≡◌ {A = Numbered X} (record { number = (k + 1) + j; earlier = (earlier ++ y ∷ []) ++ take j ys; item = x }) (record { number = k + suc j; earlier = earlier ++ y ∷ take j ys; item = x }) =
      λ i. record { number = number i; earlier = append_assoc earlier (y ∷ []) (take j ys) i; item = x } in
      contains_later o (numbered_from (k + 1) (earlier ++ y ∷ []) ys) (record { number = k + suc j; earlier = earlier ++ y ∷ take j ys; item = x })
      (subst (Contains (numbered_from (k + 1) (earlier ++ y ∷ []) ys)) same (numbered_from_at (k + 1) (earlier ++ y ∷ []) ys j x e))

  -- the item at a place, with its number and those before it
  numbered_at : (xs : List X) (j : ℕ) (x : X) → slice_get xs j ≡ Some x → Contains (numbered xs) (record { number = 1 + j; earlier = take j xs; item = x })
  numbered_at xs j x e = numbered_from_at 1 [] xs j x e

  numbered_from_place : (k : ℕ) (earlier xs : List X) (o : Numbered X) → Contains (numbered_from k earlier xs) o → (j : ℕ) × (slice_get xs j ≡ Some o.item) × (o.number ≡ k + j)
  numbered_from_place k earlier [] o c = absurd (contains_none o c)
  numbered_from_place k earlier (y ∷ ys) o c = by_place (contains_cases (record { number = k; earlier = earlier; item = y }) (numbered_from (k + 1) (earlier ++ y ∷ []) ys) o c) (numbered_from_place (k + 1) (earlier ++ y ∷ []) ys o) where
    by_place : (◌≡◌ {A = Numbered X} (record { number = k; earlier = earlier; item = y }) o) ⊎ Contains (numbered_from (k + 1) (earlier ++ y ∷ []) ys) o
        → (Contains (numbered_from (k + 1) (earlier ++ y ∷ []) ys) o → (j : ℕ) × (slice_get ys j ≡ Some o.item) × (o.number ≡ (k + 1) + j))
        → (j : ℕ) × (slice_get (y ∷ ys) j ≡ Some o.item) × (o.number ≡ k + j)
    by_place (inl e) later = let number : o.number ≡ k = sym (ap (λ (z : Numbered X). z.number) e) in (0, ap (λ (z : Numbered X). Some z.item) e, omega (arith, number))
    by_place (inr d) later = let found = later d in let number = found.2 in (suc found.0, found.1, omega (arith, number))

  -- the place of a numbered item
  numbered_place : (xs : List X) (o : Numbered X) → Contains (numbered xs) o → (j : ℕ) × (slice_get xs j ≡ Some o.item) × (o.number ≡ 1 + j)
  numbered_place xs o c = numbered_from_place 1 [] xs o c

  -- an item of a front stands at a place before its end
  front_place : (xs : List X) (n : ℕ) (x : X) → Contains (take n xs) x → (j : ℕ) × (j < n) × (slice_get xs j ≡ Some x)
  front_place [] zero x c = absurd (contains_none x c)
  front_place [] (suc n) x c = absurd (contains_none x c)
  front_place (y ∷ ys) zero x c = absurd (contains_none x c)
  front_place (y ∷ ys) (suc n) x c = by_place (contains_cases y (take n ys) x c) (front_place ys n x) where
    by_place : (y ≡ x) ⊎ Contains (take n ys) x → (Contains (take n ys) x → (j : ℕ) × (j < n) × (slice_get ys j ≡ Some x)) → (j : ℕ) × (j < suc n) × (slice_get (y ∷ ys) j ≡ Some x)
    by_place (inl e) later = (0, omega arith, ap Some e)
    by_place (inr d) later = let found = later d in let less = found.1 in (suc found.0, omega (arith, less), found.2)

-- ---- the keys that notes tell

-- the key that an operation writes
abbrev cell_of_op : Op → Option Cell
cell_of_op op = option_map cell_of_write (write_of op)

cell_told : (tells : Cell → Option Look → Type 0) (earlier : List Op) (op : Op) (note : Noted) → IsNoteBy tells earlier op note → cell_of_note note ≡ cell_of_op op
cell_told tells earlier op note is = ap (λ t. option_map (λ (key : List ℕ). let c : Cell = record { table = t; key = key } in c) note.write) is.table ∙ ap (option_map (λ (key : List ℕ). let c : Cell = record { table = table_of op; key = key } in c)) is.write ∙ by_op op where
  by_op : (o : Op) → option_map (λ (key : List ℕ). let c : Cell = record { table = table_of o; key = key } in c) (option_map (λ (w : Write). w.key) (write_of o)) ≡ cell_of_op o
  by_op (Get table key) = refl
  by_op (Scan table low high) = refl
  by_op (Put table key value) = refl
  by_op (Del table key) = refl

cells_told : (tells : Step → Cell → Option Look → Type 0) (os : List (Numbered Step)) (notes : List Noted) → AreNotesBy tells os notes → map cell_of_note notes ≡ map (λ o. cell_of_op o.item.op) os
cells_told tells [] [] are = refl
cells_told tells [] (note ∷ notes) are = absurd are
cells_told tells (o ∷ os) [] are = absurd are
cells_told tells (o ∷ os) (note ∷ notes) are =
    ap (λ c. c ∷ map cell_of_note notes) (cell_told (tells o.item) (map (λ (b : Step). b.op) o.earlier) o.item.op note are.0)
    ∙ ap (λ cs. cell_of_op o.item.op ∷ cs) (cells_told tells os notes are.1)

numbered_items : {X Y : Type 0} (f : X → Y) (k : ℕ) (earlier xs : List X) → map (λ o. f o.item) (numbered_from k earlier xs) ≡ map f xs
numbered_items f k earlier [] = refl
numbered_items f k earlier (x ∷ xs) = ap (λ l. f x ∷ l) (numbered_items f (k + 1) (earlier ++ x ∷ []) xs)

step_cells : (steps : List Step) → map (λ step. cell_of_op step.op) steps ≡ map cell_of_op (map (λ a. a.op) (map answered_of steps))
step_cells [] = refl
step_cells (step ∷ steps) = ap (λ l. cell_of_op step.op ∷ l) (step_cells steps)

-- the write that is the first of its key is the operation's
first_is : (earlier : List Op) (o : Option Write) (write : Write) → first_of_key earlier o ≡ Some write → o ≡ Some write
first_is earlier None write e = e
first_is earlier (Some w) write e = by_written (list_any (writes_at (cell_of_write w)) earlier) e where
  by_written : (b : Bool) → unless_written b w ≡ Some write → Some w ≡ Some write
  by_written true e = absurd (none_some e)
  by_written false e = e

mapped_some : {A B : Type 0} (f : A → B) (o : Option A) (y : B) → option_map f o ≡ Some y → (x : A) × (o ≡ Some x) × (f x ≡ y)
mapped_some f None y e = absurd (none_some e)
mapped_some f (Some x) y e = (x, refl, some_same e)

written_cell : (q : Cell) (o : Option Write) → is_write_at q o ≡ true → option_map cell_of_write o ≡ Some q
written_cell q None e = absurd (true_false (sym e))
written_cell q (Some w) e = ap Some (same_cell_same (cell_of_write w) q e)

-- the notes before a place are spared
abbrev pub AreSpared : Records → List ℕ → ℕ → List Noted → ℕ → Type 0
AreSpared records list p notes place = (j : ℕ) (note : Noted) → j < place → slice_get notes j ≡ Some note → IsSpared records list p note

pub spared_more : (records : Records) (list : List ℕ) (p : ℕ) (notes : List Noted) (place : ℕ) (note : Noted) → AreSpared records list p notes place → slice_get notes place ≡ Some note → IsSpared records list p note → AreSpared records list p notes (place + 1)
spared_more records list p notes place note spared here own j other less e = by_order (ltb j place) refl where
  by_order : (b : Bool) → ltb j place ≡ b → IsSpared records list p other
  by_order true before = spared j other (ltb-true j place before) e
  by_order false past =
      let from = ltb-false j place past in
      let one : place ≡ j = omega (arith, less, from) in
      subst (IsSpared records list p) (some_same (sym here ∙ ap (slice_get notes) one ∙ e)) own

module _ (s : State) (i : LiveBatch) (tx : Long) (writes : List Write) (lives : List Live) (records : Records) (agenda : Listed) (asked : IsAsked s i tx writes lives records agenda) where
  abbrev ops : List Op
  ops = batch_operations i

  abbrev notes : List Noted
  notes = tx.list.notes

  cells_of_batch : map cell_of_note notes ≡ map cell_of_op ops
  cells_of_batch =
      cells_told _ (numbered asked.decidable.active.steps) notes asked.decidable.noted
      ∙ numbered_items (λ (step : Step). cell_of_op step.op) 1 [] asked.decidable.active.steps
      ∙ step_cells asked.decidable.active.steps
      ∙ ap (λ (t : Transaction). map cell_of_op (operations t)) asked.decidable.tx

  cell_at : (j : ℕ) → option_map cell_of_note (slice_get notes j) ≡ option_map cell_of_op (slice_get ops j)
  cell_at j = sym (slice_get-map cell_of_note notes j) ∙ ap (λ cs. slice_get cs j) cells_of_batch ∙ slice_get-map cell_of_op ops j

  -- the operation at a place writes what its note tells, and the other way round
  op_at : (j : ℕ) (note : Noted) → slice_get notes j ≡ Some note → (op : Op) × (slice_get ops j ≡ Some op) × (cell_of_op op ≡ cell_of_note note)
  op_at j note e = by_op (slice_get ops j) refl where
    by_op : (o : Option Op) → slice_get ops j ≡ o → (op : Op) × (slice_get ops j ≡ Some op) × (cell_of_op op ≡ cell_of_note note)
    by_op None is = absurd (none_some (sym (ap (option_map cell_of_op) is) ∙ sym (cell_at j) ∙ ap (option_map cell_of_note) e))
    by_op (Some op) is = (op, is, some_same (sym (ap (option_map cell_of_op) is) ∙ sym (cell_at j) ∙ ap (option_map cell_of_note) e))

  note_at : (j : ℕ) (op : Op) → slice_get ops j ≡ Some op → (note : Noted) × (slice_get notes j ≡ Some note) × (cell_of_note note ≡ cell_of_op op)
  note_at j op e = by_note (slice_get notes j) refl where
    by_note : (o : Option Noted) → slice_get notes j ≡ o → (note : Noted) × (slice_get notes j ≡ Some note) × (cell_of_note note ≡ cell_of_op op)
    by_note None is = absurd (none_some (sym (ap (option_map cell_of_note) is) ∙ cell_at j ∙ ap (option_map cell_of_op) e))
    by_note (Some note) is = (note, is, some_same (sym (ap (option_map cell_of_note) is) ∙ cell_at j ∙ ap (option_map cell_of_op) e))

  module _ (p : ℕ) (target : IsTarget s i p) where
    -- the note of a contradicted witness, and its reader by the records
    record IsToldAt (v : batches.Witness) (j : ℕ) : Type 0 where
      op : v.op ≡ 1 + j
      note : Noted
      here : slice_get notes j ≡ Some note
      cell : cell_of_note note ≡ Some v.cell
      reader : IsContradictedReader records agenda.list p v.cell v.other

    told_at : (v : batches.Witness) → IsContradicted s i p v → (j : ℕ) × IsToldAt v j
    told_at v c = (
      found.0,
      record {
        op = sym c.writes.same ∙ found.2;
        note = note.0;
        here = note.1;
        cell = note.2 ∙ ap (option_map cell_of_write) (first_is c.writes.at.earlier (write_of c.writes.at.item) c.writes.write c.writes.writes) ∙ ap Some c.writes.key;
        reader = reader_told s i tx writes lives records agenda asked p target v.cell v.other (record { reader = c.reader; number = c.number; after = c.after; looks = c.looks; unwritten = c.unwritten });
      },
    ) where
      found : (j : ℕ) × (slice_get ops j ≡ Some c.writes.at.item) × (c.writes.at.number ≡ 1 + j)
      found = numbered_place ops c.writes.at c.writes.here

      note : (n : Noted) × (slice_get notes found.0 ≡ Some n) × (cell_of_note n ≡ cell_of_op c.writes.at.item)
      note = note_at found.0 c.writes.at.item found.1

    -- where all notes are spared there is none
    pub none_told : AreSpared records agenda.list p notes (length notes) → IsFoundContradicted s i p None
    none_told spared v c = by_place (told_at v c) where
      by_place : (j : ℕ) × IsToldAt v j → ⊥
      by_place (j, t) = spared j t.note (slice_get_within notes j t.note t.here) t.here v.cell t.cell v.other t.reader

    -- the first note that is not spared tells the first one
    module _ (place : ℕ) (note : Noted) (w : Witness) (here : slice_get notes place ≡ Some note) (spared : AreSpared records agenda.list p notes place) (is : IsWitnessOf records agenda.list p (place + 1) note (Some w)) where
      abbrev cell : Cell
      cell = record { table = w.table; key = w.key }

      op : (o : Op) × (slice_get ops place ≡ Some o) × (cell_of_op o ≡ cell_of_note note)
      op = op_at place note here

      write : (x : Write) × (write_of op.0 ≡ Some x) × (cell_of_write x ≡ cell)
      write = mapped_some cell_of_write (write_of op.0) cell (op.2 ∙ is.1)

      number : 1 + place ≡ w.op
      number = let same = is.0 in omega (arith, same)

      at : IsContradictedAt s p cell w.other
      at = told_reader s i tx writes lives records agenda asked p target cell w.other is.2.0

      reader_member : is_member s.agenda w.other ≡ true
      reader_member = subst (λ n. is_member s.agenda n ≡ true) at.number (serial_is_member s.agenda at.reader (serial_here s.agenda at.reader (from_contains (has_number p) s.agenda (Committed at.reader) (serial_member (part_from p s.agenda) at.reader at.after))))

      -- an earlier write of the key would have been a witness
      unwritten : list_any (writes_at (cell_of_write write.0)) (take place ops) ≡ false
      unwritten = false_from_ne_true (list_any (writes_at (cell_of_write write.0)) (take place ops)) (λ e.
          let found = any_item (writes_at (cell_of_write write.0)) (take place ops) e in
          let earlier = front_place ops place found.0 found.1 in
          let its = note_at earlier.0 found.0 earlier.2 in
          spared earlier.0 its.0 earlier.1 its.1 cell (its.2 ∙ written_cell (cell_of_write write.0) (write_of found.0) found.2 ∙ ap Some write.2) w.other is.2.0)

      first_written : first_write (take place ops) op.0 ≡ Some write.0
      first_written = ap (first_of_key (take place ops)) write.1 ∙ ap (λ b. unless_written b write.0) unwritten

      contradicted : IsContradicted s i p (seen w)
      contradicted = record {
        writes = record { at = record { number = 1 + place; earlier = take place ops; item = op.0 }; write = write.0; here = numbered_at ops place op.0 op.1; same = number; writes = first_written; key = write.2 };
        reader = at.reader;
        number = at.number;
        after = at.after;
        looks = at.looks;
        unwritten = at.unwritten;
      }

      not_earlier : (v : batches.Witness) (j : ℕ) → IsToldAt v j → (b : Bool) → ltb j place ≡ b → w.op ≤ v.op
      not_earlier v j t true less = absurd (spared j t.note (ltb-true j place less) t.here v.cell t.cell v.other t.reader)
      not_earlier v j t false least = let from = ltb-false j place least in let own = number in let its = t.op in omega (arith, from, own, its)

      same_cell_at : (v : batches.Witness) (j : ℕ) → IsToldAt v j → w.op ≡ v.op → v.cell ≡ cell
      same_cell_at v j t same =
          let one : j ≡ place = let own = number in let its = t.op in omega (arith, same, own, its) in
          let notes_same : t.note ≡ note = some_same (sym t.here ∙ ap (slice_get notes) one ∙ here) in
          some_same (sym t.cell ∙ ap cell_of_note notes_same ∙ is.1)

      pub first_told : IsFoundContradicted s i p (Some w)
      first_told = record {
        contradicted = contradicted;
        first = λ v c. let t = told_at v c in not_earlier v t.0 t.1 (ltb t.0 place) refl;
        earliest = λ v c same. let t = told_at v c in
            not_before s i tx writes lives records agenda asked v.other w.other reader_member (is.2.1 v.other (subst (λ q. IsContradictedReader records agenda.list p q v.other) (same_cell_at v t.0 t.1 same) t.1.reader));
      }
