-- What a batch read from its snapshot it reads at the place where it commits: at its slot, or before its target.
use Rattle.std.proofs.Common.{◌≡◌, ℕ, Bool, true, false, cond, not, ◌&&◌, List, [], ◌∷◌, ◌++◌, filter, Option, Some, None, option_map, refl, sym, ap, ◌∙◌, subst, append-nil}
use Rattle.std.proofs.lemmas.Bool.{both_ways, not-false, eq-eqb, ne_eqb, or_right, false_from_ne_true}
use Rattle.std.specs.List.{find, list_any, AllByRecursion, Contains}
use Rattle.ltx_model.specs.declared.commands.Op.{Op}
use Rattle.ltx_model.specs.declared.rows.StoredRow.{StoredRow}
use Rattle.ltx_model.specs.Lists.{before_first}
use Rattle.ltx_model.specs.Keys.{Cell, IsRising}
use Rattle.ltx_model.specs.StoredRows.{cell_of}
use Rattle.ltx_model.specs.Operations.{Transaction, operations, cell_of_write, writes_of, writes_key, looks_up_key}
use Rattle.ltx_model.specs.Rows.{play, run}
use Rattle.ltx_model.specs.Agenda.{Member, Committed, number_of, has_number, serial, part_before, part_from, commits_after}
use Rattle.ltx_model.specs.States.{State, LiveBatch}
use Rattle.ltx_model.specs.Batches.{batch_operations, committed_ahead, writes_what_looks, overtakes, target, last_writer, last_writer_from, is_from_some, cells_written_by, first_late}
use Rattle.ltx_lemmas.specs.Places.{is_before, is_at_or_after, AreApart}
use Rattle.ltx_lemmas.proofs.Lists.{none_some, some_same, all_from, all_contains, any_not, any_not_all, any_append, any_contains, filter_append, filter_item, contains_here, contains_front, contains_back, find_none, find_splits, before_fails, before_past, parts_join, before_contains}
use Rattle.ltx_lemmas.proofs.Members.{same_number, before_asym, apart_tail}
use Rattle.ltx_lemmas.proofs.Serials.{serial_here, serial_member, serial_append}
use Rattle.ltx_lemmas.proofs.Runs.{reads_at_place}
use Rattle.ltx_lemmas.proofs.Searches.{write_at, is_in, is_in_written_by, last_writer_append, last_writer_is}
use Rattle.ltx_laws.proofs.ReadsWitnesses.{not_late}

none_mapped : {A B : Type 0} (f : A → B) (o : Option A) → option_map f o ≡ None → o ≡ None
none_mapped f None e = refl
none_mapped f (Some x) e = cc

some_mapped : {A B : Type 0} (f : A → B) (o : Option A) (y : B) → option_map f o ≡ Some y → (x : A) × (o ≡ Some x) × (f x ≡ y)
some_mapped f None y e = absurd (none_some e)
some_mapped f (Some x) y e = (x, refl, some_same e)

-- the members of the snapshot, by what committed after the slot
abbrev pub in_snapshot : State → ℕ → Transaction → Bool
in_snapshot s n t = not (commits_after s.moves n t.number)

-- of members with numbers of their own, those before one
pub front_fails : (front : List Member) (m : Member) (rest : List Member) → AreApart (front ++ m ∷ rest) → AllByRecursion (λ x. has_number (number_of m) x ≡ false) front
front_fails [] m rest apart = tt
front_fails (x ∷ front) m rest apart =
    let tail = apart_tail x (front ++ m ∷ rest) apart in
    let other : has_number (number_of x) m ≡ false = any_not (has_number (number_of x)) (front ++ m ∷ rest) m tail.0 (contains_back front (m ∷ rest) m (contains_here m rest)) in
    (ne_eqb (number_of x) (number_of m) (λ same. let no : ⊥ = both_ways (has_number (number_of x) m) other (eq-eqb (number_of m) (number_of x) (sym same)) in no), front_fails front m rest tail.1)

before_it : (front : List Member) (m : Member) (rest : List Member) → AreApart (front ++ m ∷ rest) → part_before (number_of m) (front ++ m ∷ rest) ≡ front
before_it front m rest apart =
    before_past (has_number (number_of m)) front (m ∷ rest) (front_fails front m rest apart)
    ∙ ap (λ b. front ++ cond b [] (m ∷ part_before (number_of m) rest)) (same_number (number_of m))
    ∙ append-nil front

module _ (s : State) (i : LiveBatch) where
  -- a batch that committed after the slot, stands before it and is not overtaken writes nothing that the batch looked up
  unwritten_ahead : (t : Transaction) → overtakes s i (Committed t) ≡ false → in_snapshot s i.tx.number t ≡ false → is_before s.agenda t.number i.tx.number ≡ true
      → (q : Cell) → looks_up_key (batch_operations i) q ≡ true → writes_key (operations t) q ≡ false
  unwritten_ahead t free out before q looks = by_test (writes_key (operations t) q) refl where
    ahead : committed_ahead s i t ≡ true
    ahead = ap (λ b. b && is_before s.agenda t.number i.tx.number) (not-false (commits_after s.moves i.tx.number t.number) out) ∙ before

    writes_none : writes_what_looks i t ≡ false
    writes_none = sym (ap (λ b. b && writes_what_looks i t) ahead) ∙ free

    by_test : (b : Bool) → writes_key (operations t) q ≡ b → writes_key (operations t) q ≡ false
    by_test false e = e
    by_test true e =
        let (w, here, cell) = write_at q (operations t) e in
        let unseen : looks_up_key (batch_operations i) (cell_of_write w) ≡ false = any_not (λ w. looks_up_key (batch_operations i) (cell_of_write w)) (writes_of (operations t)) w writes_none here in
        absurd (let no : ⊥ = both_ways (looks_up_key (batch_operations i) q) (subst (λ c. looks_up_key (batch_operations i) c ≡ false) cell unseen) looks in no)

  -- a committed member before the slot
  before_slot : (t : Transaction) → Contains (serial (part_before i.tx.number s.agenda)) t → is_before s.agenda t.number i.tx.number ≡ true
  before_slot t c = any_contains (has_number t.number) (part_before i.tx.number s.agenda) (Committed t) (serial_member (part_before i.tx.number s.agenda) t c) (same_number t.number)

  -- At home: nothing is overtaken.
  pub reads_at_home : (base : List StoredRow) → IsRising cell_of base → i.snapshot ≡ filter (in_snapshot s i.tx.number) (serial (part_before i.tx.number s.agenda)) → target s i ≡ None
      → play i.tx.number (run base i.snapshot) (batch_operations i) ≡ play i.tx.number (run base (serial (part_before i.tx.number s.agenda))) (batch_operations i)
  unfolding target
  reads_at_home base rising now none =
      let front = serial (part_before i.tx.number s.agenda) in
      let free : AllByRecursion (λ m. overtakes s i m ≡ false) s.agenda = find_none (overtakes s i) s.agenda (none_mapped number_of (find (overtakes s i) s.agenda) none) in
      ap (λ l. play i.tx.number (run base l) (batch_operations i)) (now ∙ ap (filter (in_snapshot s i.tx.number)) (sym (append-nil front)))
      ∙ reads_at_place i.tx.number base (in_snapshot s i.tx.number) front [] (batch_operations i) rising
      (λ q looks. all_from (λ t. in_snapshot s i.tx.number t ≡ false → writes_key (operations t) q ≡ false) front (λ t c out.
      unwritten_ahead t (all_contains (λ m. overtakes s i m ≡ false) s.agenda (Committed t) free (before_contains (has_number i.tx.number) s.agenda (Committed t) (serial_member (part_before i.tx.number s.agenda) t c))) out (before_slot t c) q looks))
      (λ q looks. tt)

  -- Before a target: it is the first that is overtaken, and no late witness stands there.
  pub reads_before : (base : List StoredRow) (p : ℕ) → IsRising cell_of base → AreApart s.agenda → i.snapshot ≡ filter (in_snapshot s i.tx.number) (serial (part_before i.tx.number s.agenda))
      → target s i ≡ Some p → is_before s.agenda p i.tx.number ≡ true → first_late s i p ≡ None
      → play i.tx.number (run base i.snapshot) (batch_operations i) ≡ play i.tx.number (run base (serial (part_before p s.agenda))) (batch_operations i)
  unfolding target
  reads_before base p rising apart now aim before none = reads where
    keep : Transaction → Bool
    keep = in_snapshot s i.tx.number

    ops : List Op
    ops = batch_operations i

    ahead : List Transaction
    ahead = serial (part_before p s.agenda)

    behind : List Transaction
    behind = serial (part_before i.tx.number (part_from p s.agenda))

    parts : part_before i.tx.number s.agenda ≡ part_before p s.agenda ++ part_before i.tx.number (part_from p s.agenda)
    parts =
        ap (part_before i.tx.number) (sym (parts_join (has_number p) s.agenda))
        ∙ before_past (has_number i.tx.number) (part_before p s.agenda) (part_from p s.agenda) (any_not_all (has_number i.tx.number) (part_before p s.agenda) (before_asym s.agenda p i.tx.number before))

    taken : i.snapshot ≡ filter keep (ahead ++ behind)
    taken = now ∙ ap (λ l. filter keep (serial l)) parts ∙ ap (filter keep) (serial_append (part_before p s.agenda) (part_before i.tx.number (part_from p s.agenda)))

    free : AllByRecursion (λ m. overtakes s i m ≡ false) (part_before p s.agenda)
    free =
        let (m, found, number) = some_mapped number_of (find (overtakes s i) s.agenda) p aim in
        let (rest, whole, from) = find_splits (overtakes s i) s.agenda m found in
        let front = before_first (overtakes s i) s.agenda in
        let same : part_before p s.agenda ≡ front = ap (part_before p) whole ∙ sym (ap (λ k. part_before k (front ++ m ∷ rest)) number) ∙ before_it front m rest (subst AreApart whole apart) in
        subst (AllByRecursion (λ x. overtakes s i x ≡ false)) (sym same) (before_fails (overtakes s i) s.agenda)

    out : (q : Cell) → looks_up_key ops q ≡ true → AllByRecursion (λ t. keep t ≡ false → writes_key (operations t) q ≡ false) ahead
    out q looks = all_from (λ t. keep t ≡ false → writes_key (operations t) q ≡ false) ahead (λ t c gone.
        let here : Contains (part_before p s.agenda) (Committed t) = serial_member (part_before p s.agenda) t c in
        let slot : Contains (serial (part_before i.tx.number s.agenda)) t = serial_here (part_before i.tx.number s.agenda) t (subst (λ l. Contains l (Committed t)) (sym parts) (contains_front (part_before p s.agenda) (part_before i.tx.number (part_from p s.agenda)) (Committed t) here)) in
        unwritten_ahead t (all_contains (λ m. overtakes s i m ≡ false) (part_before p s.agenda) (Committed t) free here) gone (before_slot t slot) q looks)

    writes : Cell → Transaction → Bool
    writes q t = writes_key (operations t) q

    written : (q : Cell) → list_any (writes q) (filter keep behind) ≡ true → is_in q (cells_written_by [] i.snapshot) ≡ true
    written q some =
        is_in_written_by q [] i.snapshot
        ∙ ap (list_any (writes q)) (taken ∙ filter_append keep ahead behind)
        ∙ any_append (writes q) (filter keep ahead) (filter keep behind)
        ∙ or_right (list_any (writes q) (filter keep ahead)) (list_any (writes q) (filter keep behind)) some

    late : (q : Cell) → looks_up_key ops q ≡ true → AllByRecursion (λ t. writes_key (operations t) q ≡ false) (filter keep behind)
    late q looks = any_not_all (writes q) (filter keep behind) (false_from_ne_true (list_any (writes q) (filter keep behind)) (λ some.
        let (w, c, is, last) = last_writer_is (last_writer_from None q (filter keep ahead)) q (filter keep behind) some in
        let writer : last_writer i q ≡ Some w.number = ap (last_writer_from None q) (taken ∙ filter_append keep ahead behind) ∙ last_writer_append None q (filter keep ahead) (filter keep behind) ∙ last in
        let place : Contains (part_from p s.agenda) (Committed w) = before_contains (has_number i.tx.number) (part_from p s.agenda) (Committed w) (serial_member (part_before i.tx.number (part_from p s.agenda)) w (filter_item keep behind w c).0) in
        let from : is_at_or_after s.agenda w.number p ≡ true = any_contains (has_number w.number) (part_from p s.agenda) (Committed w) place (same_number w.number) in
        let not : is_at_or_after s.agenda w.number p ≡ false = subst (λ o. is_from_some s p o ≡ false) writer (not_late s i p none q looks (written q some)) in
        both_ways (is_at_or_after s.agenda w.number p) not from))

    reads : play i.tx.number (run base i.snapshot) ops ≡ play i.tx.number (run base ahead) ops
    reads = ap (λ l. play i.tx.number (run base l) ops) taken ∙ reads_at_place i.tx.number base keep ahead behind ops rising out late
