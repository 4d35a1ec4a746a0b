-- Where no witness stands at a place: no looked-up key has its last writer there or later, and no reader there sees what the batch writes.
use Rattle.std.proofs.Common.{◌≡◌, ℕ, ◌+◌, Bool, true, false, ◌&&◌, ◌||◌, List, [], ◌∷◌, ◌++◌, Option, Some, None, option_map, option_and_then, refl, sym, ap, ◌∙◌, subst}
use Rattle.std.proofs.lemmas.Bool.{and_parts}
use Rattle.std.specs.List.{find, list_any, Contains}
use Rattle.ltx_model.specs.declared.commands.Op.{Op}
use Rattle.ltx_model.specs.declared.writes.Write.{Write}
use Rattle.ltx_model.specs.Lists.{Numbered, numbered_from, numbered}
use Rattle.ltx_model.specs.Keys.{Cell}
use Rattle.ltx_model.specs.Operations.{write_of, cell_of_write, is_write_at, writes_at, writes_key, unless_written, first_of_key, first_write, looks_up, looks_up_key}
use Rattle.ltx_model.specs.Agenda.{serial, part_from}
use Rattle.ltx_model.specs.States.{State, LiveBatch}
use Rattle.ltx_model.specs.Batches.{batch_operations, Witness, late_or, last_writer, is_from_some, is_late_key, late_witness, late_of, first_late, cells_written_by, contradicted, contradicted_write, contradicts_of, first_contradicted}
use Rattle.ltx_lemmas.proofs.Lists.{true_false, none_some, all_contains, find_passes, any_item, contains_here, contains_later}
use Rattle.ltx_model.proofs.CellOrder.{same_cell_same}
use Rattle.ltx_lemmas.proofs.Searches.{first_none, is_in, none_passes}

-- no refusal: neither a late witness nor a contradicted one
pub no_witness : (late contradicted : Option Witness) → late_or late contradicted ≡ None → (late ≡ None) × (contradicted ≡ None)
no_witness None None e = (refl, refl)
no_witness None (Some w) e = cc
no_witness (Some w) c e = cc

-- where no late witness is made of a chosen key, none was chosen
late_nowhere : (s : State) (i : LiveBatch) (number p : ℕ) (earlier : List Op) (op : Op) (chosen : Option Cell) → option_and_then (late_witness i number) chosen ≡ None
    → ((c : Cell) → chosen ≡ Some c → is_late_key s i p earlier op c ≡ true) → chosen ≡ None
late_nowhere s i number p earlier op None e passes = refl
late_nowhere s i number p earlier op (Some c) e passes = absurd (by_writer (last_writer i c) refl e (and_parts (looks_up c earlier op) (is_from_some s p (last_writer i c)) (passes c refl)).1) where
  by_writer : (o : Option ℕ) → last_writer i c ≡ o → option_map (λ (n : ℕ). let v : Witness = record { op = number; cell = c; other = n } in v) o ≡ None → is_from_some s p (last_writer i c) ≡ true → ⊥
  by_writer None is h from = let no : is_from_some s p None ≡ true = subst (λ o. is_from_some s p o ≡ true) is from in true_false (sym no)
  by_writer (Some n) is h from = none_some (sym h)

-- No late witness: the last writer of a key that the batch looked up does not stand at the place or later.
pub not_late : (s : State) (i : LiveBatch) (p : ℕ) → first_late s i p ≡ None → (q : Cell) → looks_up_key (batch_operations i) q ≡ true → is_in q (cells_written_by [] i.snapshot) ≡ true → is_from_some s p (last_writer i q) ≡ false
unfolding first_late
not_late s i p none q looks written =
    let cells = cells_written_by [] i.snapshot in
    let (o, here, is) = any_item (λ o. looks_up q o.earlier o.item) (numbered (batch_operations i)) looks in
    let given : late_of s i p cells o ≡ None = all_contains (λ o. late_of s i p cells o ≡ None) (numbered (batch_operations i)) o (first_none (late_of s i p cells) (numbered (batch_operations i)) none) here in
    let nowhere : find (is_late_key s i p o.earlier o.item) cells ≡ None = late_nowhere s i o.number p o.earlier o.item (find (is_late_key s i p o.earlier o.item) cells) given (λ c found. find_passes (is_late_key s i p o.earlier o.item) cells c found) in
    let fails : (looks_up q o.earlier o.item && is_from_some s p (last_writer i q)) ≡ false = none_passes (is_late_key s i p o.earlier o.item) q cells nowhere written in
    subst (λ b. (b && is_from_some s p (last_writer i q)) ≡ false) is fails

-- a key that operations write has a first write
pub record WritesAtFirst (q : Cell) (os : List (Numbered Op)) : Type 0 where
  pub at : Numbered Op
  pub write : Write
  pub here : Contains os at
  pub first : first_write at.earlier at.item ≡ Some write
  pub cell : cell_of_write write ≡ q

any_push : (q : Cell) (xs : List Op) (x : Op) → list_any (writes_at q) xs ≡ false → writes_at q x ≡ false → list_any (writes_at q) (xs ++ x ∷ []) ≡ false
any_push q [] x e f = ap (λ b. b || false) f
any_push q (y ∷ ys) x e f = by_test (writes_at q y) e (any_push q ys x) where
  by_test : (b : Bool) → (b || list_any (writes_at q) ys) ≡ false → (list_any (writes_at q) ys ≡ false → writes_at q x ≡ false → list_any (writes_at q) (ys ++ x ∷ []) ≡ false) → (b || list_any (writes_at q) (ys ++ x ∷ [])) ≡ false
  by_test true h later = absurd (true_false h)
  by_test false h later = later h f

first_of_it : (q : Cell) (earlier : List Op) (o : Option Write) → is_write_at q o ≡ true → list_any (writes_at q) earlier ≡ false → (w : Write) × (first_of_key earlier o ≡ Some w) × (cell_of_write w ≡ q)
first_of_it q earlier None e new = absurd (true_false (sym e))
first_of_it q earlier (Some w) e new =
    let cell : cell_of_write w ≡ q = same_cell_same (cell_of_write w) q e in
    let fresh : list_any (writes_at (cell_of_write w)) earlier ≡ false = subst (λ c. list_any (writes_at c) earlier ≡ false) (sym cell) new in
    (w, ap (λ b. unless_written b w) fresh, cell)

writes_first_from : (q : Cell) (k : ℕ) (earlier ops : List Op) → list_any (writes_at q) earlier ≡ false → writes_key ops q ≡ true → WritesAtFirst q (numbered_from k earlier ops)
writes_first_from q k earlier [] new e = absurd (true_false (sym e))
writes_first_from q k earlier (op ∷ ops) new e = by_test (writes_at q op) refl e (writes_first_from q (k + 1) (earlier ++ op ∷ []) ops) where
  first : Numbered Op
  first = record { number = k; earlier = earlier; item = op }

  by_test : (b : Bool) → writes_at q op ≡ b → (b || list_any (writes_at q) ops) ≡ true
      → (list_any (writes_at q) (earlier ++ op ∷ []) ≡ false → writes_key ops q ≡ true → WritesAtFirst q (numbered_from (k + 1) (earlier ++ op ∷ []) ops))
      → WritesAtFirst q (numbered_from k earlier (op ∷ ops))
  by_test true is h later = let (w, gives, cell) = first_of_it q earlier (write_of op) is new in
      record { at = first; write = w; here = contains_here first (numbered_from (k + 1) (earlier ++ op ∷ []) ops); first = gives; cell = cell }
  by_test false is h later = let r = later (any_push q earlier op new is) h in
      record { at = r.at; write = r.write; here = contains_later first (numbered_from (k + 1) (earlier ++ op ∷ []) ops) r.at r.here; first = r.first; cell = r.cell }

pub writes_first : (q : Cell) (ops : List Op) → writes_key ops q ≡ true → WritesAtFirst q (numbered ops)
writes_first q ops e = writes_first_from q 1 [] ops refl e

none_mapped : {A B : Type 0} (f : A → B) (o : Option A) → option_map f o ≡ None → o ≡ None
none_mapped f None e = refl
none_mapped f (Some x) e = cc

-- No contradicted witness: of the members at the place and later, none sees a key that the batch writes.
pub not_contradicted : (s : State) (i : LiveBatch) (p : ℕ) → first_contradicted s i p ≡ None → (q : Cell) → writes_key (batch_operations i) q ≡ true → contradicted q (serial (part_from p s.agenda)) ≡ None
unfolding first_contradicted
not_contradicted s i p none q writes =
    let later = serial (part_from p s.agenda) in
    let w = writes_first q (batch_operations i) writes in
    let given : contradicts_of later w.at ≡ None = all_contains (λ o. contradicts_of later o ≡ None) (numbered (batch_operations i)) w.at (first_none (contradicts_of later) (numbered (batch_operations i)) none) w.here in
    let its : contradicted_write later w.at.number w.write ≡ None = sym (ap (option_and_then (contradicted_write later w.at.number)) w.first) ∙ given in
    subst (λ c. contradicted c later ≡ None) w.cell (none_mapped _ _ its)
