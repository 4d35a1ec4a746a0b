-- The late look of the first note that has one tells the first late witness.
use Rattle.std.proofs.Common.{◌≡◌, ◌⊎◌, inl, inr, ℕ, zero, suc, ◌+◌, ◌<◌, ◌≤◌, true, false, List, [], ◌∷◌, ◌++◌, map, length, Option, Some, None, refl, sym, ap, ◌∙◌, subst, arith, slice_get, Contains}
use Rattle.std.specs.List.{AllByRecursion}
use Rattle.std.proofs.lemmas.List.{map-append}
use Rattle.std.proofs.lemmas.Bool.{cases_lt}
use Rattle.ltx_model.specs.declared.commands.Op.{Op}
use Rattle.ltx_model.specs.declared.writes.Look.{Look}
use Rattle.ltx_model.specs.declared.looked.Noted.{Noted}
use Rattle.ltx_model.specs.Lists.{Numbered, numbered, numbered_from}
use Rattle.ltx_model.specs.Keys.{Cell}
use Rattle.ltx_model.specs.Operations.{operations}
use Rattle.ltx_model.specs.Notes.{IsNoteBy, AreNotesBy}
use Rattle.ltx_model.specs.Agenda.{Member, number_of, is_member}
use Rattle.ltx_model.specs.States.{Step, Active, transaction_of, State, LiveBatch}
use Rattle.ltx_model.specs.LastWrites.{LastWrite, last_write}
use Rattle.ltx_model.specs.Shorts.{IsNotAfter}
use Rattle.ltx_model.specs.Batches.{batch_operations, is_from, is_from_floor, Witness, IsLate, IsFirstLate}
use Rattle.ltx_model.specs.Decisions.{IsAskedLook}
use Rattle.ltx_forward.specs.Earliest.{HasOrderedOwn}
use Rattle.ltx_forward.specs.Lates.{late_look}
use Rattle.ltx_lemmas.proofs.Lists.{some_same, contains_here, contains_later, contains_cases, contains_none, any_contains, from_contains, any_item}
use Rattle.ltx_lemmas.proofs.FirstSearches.{numbered_once}
use Rattle.ltx_forward.proofs.LastWriters.{last_named, last_told}
use Rattle.ltx_forward.proofs.LateNotes.{at, ArePassed, IsLateKey, IsLeastLate, TellsLate, note_tells, note_rises}

-- the operations of steps
abbrev ops_of : List Step → List Op
ops_of steps = map (λ b. b.op) steps

ops_of_all : (i : LiveBatch) (active : Active) → transaction_of active ≡ i.tx → batch_operations i ≡ ops_of active.steps
ops_of_all i active e = ap operations (sym e) ∙ mapped active.steps where
  mapped : (steps : List Step) → map (λ (a : Rattle.ltx_model.specs.Operations.Answered). a.op) (map Rattle.ltx_model.specs.States.answered_of steps) ≡ ops_of steps
  mapped [] = refl
  mapped (b ∷ bs) = ap (λ l. b.op ∷ l) (mapped bs)

module _ (tells : Cell → Option Look → Type 0) where
  -- The note of an operation: it stands at the place that the operation's number tells.
  record HasNote (n : ℕ) (notes : List Noted) (o : Numbered Op) : Type 0 where
    pub place : ℕ
    pub note : Noted
    pub here : slice_get notes place ≡ Some note
    pub number : o.number ≡ n + place
    pub is_note : IsNoteBy tells o.earlier o.item note

  -- The operation of a note.
  record HasOperation (n : ℕ) (os : List (Numbered Op)) (place : ℕ) (note : Noted) : Type 0 where
    pub at : Numbered Op
    pub here : Contains os at
    pub number : at.number ≡ n + place
    pub is_note : IsNoteBy tells at.earlier at.item note

  -- the numbered operations of the steps after one
  rest_same : (n : ℕ) (earlier : List Step) (b : Step) (steps : List Step) → numbered_from (n + 1) (ops_of (earlier ++ b ∷ [])) (ops_of steps) ≡ numbered_from (n + 1) (ops_of earlier ++ b.op ∷ []) (ops_of steps)
  rest_same n earlier b steps = ap (λ l. numbered_from (n + 1) l (ops_of steps)) (map-append (λ (s : Step). s.op) earlier (b ∷ []))

  note_from : (n : ℕ) (earlier steps : List Step) (notes : List Noted) → AreNotesBy (λ (step : Step). tells) (numbered_from n earlier steps) notes → (o : Numbered Op) → Contains (numbered_from n (ops_of earlier) (ops_of steps)) o → HasNote n notes o
  note_from n earlier [] notes are o c = absurd (contains_none o c)
  note_from n earlier (b ∷ bs) [] are o c = absurd are
  note_from n earlier (b ∷ bs) (note ∷ notes) are o c =
      by_place (contains_cases first rest o c) (λ d. note_from (n + 1) (earlier ++ b ∷ []) bs notes are.1 o (subst (λ l. Contains l o) (sym (rest_same n earlier b bs)) d)) where
        first : Numbered Op
        first = record { number = n; earlier = ops_of earlier; item = b.op }

        rest : List (Numbered Op)
        rest = numbered_from (n + 1) (ops_of earlier ++ b.op ∷ []) (ops_of bs)

        by_place : (first ≡ o) ⊎ Contains rest o → (Contains rest o → HasNote (n + 1) notes o) → HasNote n (note ∷ notes) o
        by_place (inl same) later = subst (HasNote n (note ∷ notes)) same (record { place = zero; note = note; here = refl; number = omega arith; is_note = are.0 })
        by_place (inr d) later = let h = later d in record { place = suc h.place; note = h.note; here = h.here; number = (let e = h.number in omega (arith, e)); is_note = h.is_note }

  operation_from : (n : ℕ) (earlier steps : List Step) (notes : List Noted) → AreNotesBy (λ (step : Step). tells) (numbered_from n earlier steps) notes → (place : ℕ) (note : Noted) → slice_get notes place ≡ Some note
      → HasOperation n (numbered_from n (ops_of earlier) (ops_of steps)) place note
  operation_from n earlier [] [] are place note is = cc
  operation_from n earlier [] (m ∷ notes) are place note is = absurd are
  operation_from n earlier (b ∷ bs) [] are place note is = absurd are
  operation_from n earlier (b ∷ bs) (m ∷ notes) are zero note is = record {
    at = first;
    here = contains_here first (numbered_from (n + 1) (ops_of earlier ++ b.op ∷ []) (ops_of bs));
    number = omega arith;
    is_note = let same : m ≡ note = some_same is in subst (IsNoteBy tells (ops_of earlier) b.op) same are.0;
  } where
    first : Numbered Op
    first = record { number = n; earlier = ops_of earlier; item = b.op }
  operation_from n earlier (b ∷ bs) (m ∷ notes) are (suc place) note is =
      later (operation_from (n + 1) (earlier ++ b ∷ []) bs notes are.1 place note is) where
        later : HasOperation (n + 1) (numbered_from (n + 1) (ops_of (earlier ++ b ∷ [])) (ops_of bs)) place note → HasOperation n (numbered_from n (ops_of earlier) (ops_of (b ∷ bs))) (suc place) note
        later h = record {
          at = h.at;
          here = contains_later (record { number = n; earlier = ops_of earlier; item = b.op }) (numbered_from (n + 1) (ops_of earlier ++ b.op ∷ []) (ops_of bs)) h.at (subst (λ l. Contains l h.at) (rest_same n earlier b bs) h.here);
          number = (let e = h.number in omega (arith, e));
          is_note = h.is_note;
        }

module _ (s : State) (i : LiveBatch) (p : ℕ) (active : Active) (tx_is : transaction_of active ≡ i.tx) (strangers : AllByRecursion (λ row. is_member s.agenda row.writer ≡ false) s.base)
    (within : (n : ℕ) → is_from s p n ≡ true → is_from_floor s n ≡ true) (notes : List Noted) (noted : AreNotesBy (λ (step : Step). IsAskedLook (is_from_floor s) (last_write s.base i.snapshot)) (numbered active.steps) notes) where
  abbrev last : Cell → Option LastWrite
  last = last_write s.base i.snapshot

  abbrev tells : Cell → Option Look → Type 0
  tells = IsAskedLook (is_from_floor s) last

  abbrev IsLateHere : Numbered Op → Cell → ℕ → Type 0
  IsLateHere o cell n = IsLateKey (is_from s p) (is_from_floor s) last within o.earlier o.item cell n

  -- whoever is at p or after it is a member
  from_is_member : (n : ℕ) → is_from s p n ≡ true → is_member s.agenda n ≡ true
  from_is_member n e = let found = any_item (Rattle.ltx_model.specs.Agenda.has_number n) (Rattle.ltx_model.specs.Agenda.part_from p s.agenda) e in
      any_contains (Rattle.ltx_model.specs.Agenda.has_number n) s.agenda found.0 (from_contains (Rattle.ltx_model.specs.Agenda.has_number p) s.agenda found.0 found.1) found.2

  -- a late witness is a late key of its operation, and the other way round
  late_key : (w : Witness) (h : IsLate s i p w) → IsLateHere h.looks.at w.cell w.other
  late_key w h = let (write, is, writer) = last_named s.base i w.cell w.other h.last in record { looks = h.looks.looks; write = write; written = is; writer = writer; after = h.after }

  late_witness : (o : Numbered Op) (cell : Cell) (n : ℕ) → Contains (numbered (batch_operations i)) o → IsLateHere o cell n → IsLate s i p (record { op = o.number; cell = cell; other = n })
  late_witness o cell n here h = record {
    looks = record { at = o; here = here; same = refl; looks = h.looks };
    last = last_told s.base i cell h.write (is_member s.agenda) strangers h.written (from_is_member h.write.writer (ap (is_from s p) h.writer ∙ h.after)) ∙ ap Some h.writer;
    after = h.after;
  }

  note_of : (o : Numbered Op) → Contains (numbered (batch_operations i)) o → HasNote tells 1 notes o
  note_of o here = note_from tells 1 [] active.steps notes noted o (subst (λ l. Contains (numbered l) o) (ops_of_all i active tx_is) here)

  operation_of : (place : ℕ) (note : Noted) → slice_get notes place ≡ Some note → HasOperation tells 1 (numbered (batch_operations i)) place note
  operation_of place note is =
      let h = operation_from tells 1 [] active.steps notes noted place note is in
      record { at = h.at; here = subst (λ l. Contains (numbered l) h.at) (sym (ops_of_all i active tx_is)) h.here; number = h.number; is_note = h.is_note }

  told_of : (o : Numbered Op) (note : Noted) → IsNoteBy tells o.earlier o.item note → TellsLate (is_from s p) (is_from_floor s) last within o.earlier o.item note.table (late_look (is_from s p) note.reach)
  told_of o note is = note_tells (is_from s p) (is_from_floor s) last within o.earlier o.item note is

  rises_of : (o : Numbered Op) (note : Noted) → IsNoteBy tells o.earlier o.item note → HasOrderedOwn note.reach
  rises_of o note is = note_rises (is_from s p) (is_from_floor s) last within o.earlier o.item note is

  -- an operation whose note has no late look has no late key
  none_of : (o : Numbered Op) (note : Noted) → IsNoteBy tells o.earlier o.item note → (HasOrderedOwn note.reach → late_look (is_from s p) note.reach ≡ None) → (cell : Cell) (n : ℕ) → IsLateHere o cell n → ⊥
  none_of o note is none = subst (TellsLate (is_from s p) (is_from_floor s) last within o.earlier o.item note.table) (none (rises_of o note is)) (told_of o note is)

  passed_none : (k : ℕ) → ArePassed (is_from s p) k notes → (w : Witness) (h : IsLate s i p w) (n : HasNote tells 1 notes h.looks.at) → n.place < k → ⊥
  passed_none k passed w h n less = none_of h.looks.at n.note n.is_note (passed n.place n.note less n.here) w.cell w.other (late_key w h)

  place_within : (ns : List Noted) (place : ℕ) (note : Noted) → slice_get ns place ≡ Some note → place < length ns
  place_within [] place note is = cc
  place_within (m ∷ ms) zero note is = omega arith
  place_within (m ∷ ms) (suc place) note is = let less = place_within ms place note is in omega (arith, less)

  pub none_late : ArePassed (is_from s p) (length notes) notes → (w : Witness) → IsLate s i p w → ⊥
  none_late passed w h = let n = note_of h.looks.at h.looks.here in passed_none (length notes) passed w h n (place_within notes n.place n.note n.here)

  pub first_late_is : (k : ℕ) (note : Noted) (look : Look) → ArePassed (is_from s p) k notes → slice_get notes k ≡ Some note → (HasOrderedOwn note.reach → late_look (is_from s p) note.reach ≡ Some look)
      → IsFirstLate s i p (record { op = k + 1; cell = at note.table look.key; other = look.writer })
  first_late_is k note look passed is found = record { late = late; first = λ v h. not_before v h (note_of h.looks.at h.looks.here) } where
    o : HasOperation tells 1 (numbered (batch_operations i)) k note
    o = operation_of k note is

    number : o.at.number ≡ k + 1
    number = let e = o.number in omega (arith, e)

    least : IsLeastLate (is_from s p) (is_from_floor s) last within o.at.earlier o.at.item note.table look
    least = subst (TellsLate (is_from s p) (is_from_floor s) last within o.at.earlier o.at.item note.table) (found (rises_of o.at note o.is_note)) (told_of o.at note o.is_note)

    late : IsLate s i p (record { op = k + 1; cell = at note.table look.key; other = look.writer })
    late = subst (λ m. IsLate s i p (record { op = m; cell = at note.table look.key; other = look.writer })) number (late_witness o.at (at note.table look.key) look.writer o.here least.key)

    not_before : (v : Witness) (h : IsLate s i p v) (n : HasNote tells 1 notes h.looks.at) → IsNotAfter (k + 1) (at note.table look.key) v.op v.cell
    not_before v h n = by_place (cases_lt n.place k) where
      op_is : v.op ≡ 1 + n.place
      op_is = sym h.looks.same ∙ n.number

      by_rest : k ≤ n.place → (k < n.place) ⊎ (n.place ≤ k) → IsNotAfter (k + 1) (at note.table look.key) v.op v.cell
      by_rest le (inl less) = inl (omega (arith, less, op_is))
      by_rest le (inr back) =
          let same_op : k + 1 ≡ v.op = omega (arith, le, back, op_is) in
          let same : h.looks.at ≡ o.at = numbered_once (batch_operations i) h.looks.at o.at h.looks.here o.here (h.looks.same ∙ sym same_op ∙ sym number) in
          inr (same_op, least.least v.cell v.other (subst (λ (x : Numbered Op). IsLateHere x v.cell v.other) same (late_key v h)))

      by_place : (n.place < k) ⊎ (k ≤ n.place) → IsNotAfter (k + 1) (at note.table look.key) v.op v.cell
      by_place (inl less) = absurd (passed_none k passed v h n less)
      by_place (inr le) = by_rest le (cases_lt k n.place)
