-- What a core keeps of a live batch is what a decision about its commit asks for.
use Rattle.std.proofs.Common.{◌≡◌, ◌≢◌, ℕ, ◌<◌, ◌≤◌, Bool, true, false, ◌&&◌, cond, ◌==◌, nat_lt, List, [], ◌∷◌, ◌++◌, map, length, Option, Some, None, Contains, refl, sym, ap, ◌∙◌, subst, append-nil, arith}
use Rattle.std.specs.List.{AllByRecursion}
use Rattle.std.proofs.lemmas.List.Sorted.{Contains-permutation}
use Rattle.ltx_open.specs.declared.stage.Stage.TheVariants as stages
use Rattle.ltx_model.specs.Decisions as decisions
use Rattle.ltx_model.specs.Listings as listed
use Rattle.ltx_model.specs.Agenda.{Timed, commits_after, commits_of, has_slot, is_slot, moves_until, number_of, serial}
use Rattle.ltx_model.specs.Answers.{IsLegalWith}
use Rattle.ltx_model.specs.Batches.{batch_operations, is_from_floor}
use Rattle.ltx_model.specs.Decisions.{IsAskedLook, IsDecidable, lives_of}
use Rattle.ltx_model.specs.Explained.{IsDistinct}
use Rattle.ltx_model.specs.Histories.{state}
use Rattle.ltx_model.specs.Keys.{Cell}
use Rattle.ltx_model.specs.LastWrites.{LastWrite, last_write}
use Rattle.ltx_model.specs.Lists.{IsPairwise, Numbered, numbered}
use Rattle.ltx_model.specs.Marks.{IsMarkOfSlot, IsNumberOfCommit, number_of_commit}
use Rattle.ltx_model.specs.Notes.{AreNotesBy}
use Rattle.ltx_model.specs.Operations.{writes_of}
use Rattle.ltx_model.specs.Records.{AreRecordsOf, Records}
use Rattle.ltx_model.specs.States.{Active, Base, IsLive, IsSound, LiveBatch, State, Step, is_of, live_batches, transaction_of}
use Rattle.ltx_model.specs.declared.looked.Noted.{Noted}
use Rattle.ltx_model.specs.declared.replies.Entry.{Entry}
use Rattle.ltx_model.specs.declared.rows.StoredRow.{StoredRow}
use Rattle.ltx_model.specs.declared.writes.Look.{Look}
use Rattle.ltx_model.specs.declared.writes.Write.{Write}
use Rattle.ltx_laws.specs.Structure.{Structure}
use Rattle.ltx_core.specs.Built.{built}
use Rattle.ltx_open.specs.Slots.{opened}
use Rattle.ltx_core.specs.Stands.{IsOfKind, StandsAt, everybody, ground}
use Rattle.ltx_open.specs.Views.{OpenView, declaration}
use Rattle.ltx_core.specs.Views.{CoreView}
use Rattle.ltx_open.specs.declared.stage.Declared.{Declared}
use Rattle.ltx_model.proofs.MarkPlaces.{number_found}
use Rattle.ltx_lemmas.proofs.Lists.{all_map, all_mapped, any_map, before_past, contains_back, contains_here, find_contains, some_same, true_false}
use Rattle.ltx_laws.proofs.Agendas.{member_not}
use Rattle.ltx_laws.proofs.Pairs.{all_of}
use Rattle.ltx_laws.proofs.ReadsKept.{apart_members}
use Rattle.ltx_laws.proofs.SlotMarks.{after_is_above, after_slotted, slot_here}
use Rattle.ltx_laws.proofs.Spared.{live_here}
use Rattle.ltx_laws.proofs.Structures.{structure_of}
use Rattle.ltx_laws.proofs.Transitions.{live_of}
use Rattle.ltx_laws.proofs.WitnessHolders.{AreRising, live_rising}
use Rattle.ltx_core.proofs.LastSeen.{notes_so}
use Rattle.ltx_core.proofs.LiveFound.{IsLiveAt}
use Rattle.ltx_core.proofs.OpensKept.{FoundOpen, opens_some}

-- the mark of a slot is the number of commits before it
mark_until : (moves : List Timed) (n mark : ℕ) → IsMarkOfSlot moves n mark → length (commits_of (moves_until n moves)) ≡ mark
mark_until moves n mark at =
    ap (λ l. length (commits_of l))
    (ap (moves_until n) at.parts ∙ before_past (λ (m : Timed). is_slot n m.move) at.front (at.slot ∷ at.back) at.first
    ∙ ap (λ b. at.front ++ cond b [] (at.slot ∷ moves_until n at.back)) at.is ∙ append-nil at.front)
    ∙ at.mark_is

-- live batches as a decision sees them stand in the order of their numbers
lives_rising : (bs : List LiveBatch) → AreRising bs → IsPairwise (λ (a b : decisions.Live). a.number < b.number) (map decisions.live_of bs)
lives_rising [] rising = tt
lives_rising (b ∷ bs) rising = (all_mapped (λ (c : decisions.Live). b.tx.number < c.number) decisions.live_of bs rising.0, lives_rising bs rising.1)

-- a look that is sure is one that is asked for
sure_is_asked : (asked : ℕ → Bool) (last : Cell → Option LastWrite) (cell : Cell) (look : Option Look) → IsAskedLook everybody last cell look → IsAskedLook asked last cell look
sure_is_asked asked last cell None sure = λ w is. absurd (true_false (sure w is))
sure_is_asked asked last cell (Some look) sure = sure

module _ (base : Base) (history : List Entry) (sound : IsSound base) (legal : IsLegalWith built base history) (core : CoreView) (stands : StandsAt core (state base history)) where
  abbrev s : State
  s = state base history

  structure : Structure base s
  structure = structure_of built base history legal

  -- no writer of the base's rows is a member
  strangers : AllByRecursion (λ row. listed.is_member core.list row.writer ≡ false) s.base
  strangers = subst (AllByRecursion (λ row. listed.is_member core.list row.writer ≡ false)) (sym structure.rows) (all_map (λ row. row.writer ≤ base.last) (λ row. listed.is_member core.list row.writer ≡ false) stranger base.rows sound.writers) where
    stranger : (row : StoredRow) → row.writer ≤ base.last → listed.is_member core.list row.writer ≡ false
    stranger row low =
        ap (λ l. listed.is_member l row.writer) stands.agenda.list_is ∙ any_map (λ m. m == row.writer) number_of s.agenda
        ∙ member_not s.agenda row.writer (all_map (λ m. base.last < number_of m) (λ m. number_of m ≢ row.writer) (λ m above same.
        let low_is : row.writer ≤ base.last = low in let above_is : base.last < number_of m = above in let e : number_of m ≡ row.writer = same in let none : ⊥ = omega arith in none) s.agenda structure.members.above)

  -- a live batch of the state, with its notes, its mark and its writes
  module _ (i : LiveBatch) (live : Contains (live_batches s) i) (o : Active) (among : Contains s.active o) (kind : o.kind ≡ IsLive i.declared i.snapshot) (tx : transaction_of o ≡ i.tx) (notes : List Noted) (mark : ℕ) (writes : List Write)
      (sure : AreNotesBy (λ step. IsAskedLook everybody (last_write s.base i.snapshot)) (numbered o.steps) notes) (marked : IsMarkOfSlot s.moves i.tx.number mark) (written : writes ≡ writes_of (batch_operations i))
      (records : Records) (recorded : AreRecordsOf s records) (lives : List decisions.Live) (lives_are : lives ≡ lives_of s) where
    -- of what is committed the batches that committed after its slot are those with a slot whose number is above its mark
    alike : (j number : ℕ) → IsNumberOfCommit s.moves j number → commits_after s.moves i.tx.number j ≡ (has_slot s.moves j && nat_lt mark number)
    alike j number is = by_slot (has_slot s.moves j) refl where
      here : Contains (serial s.agenda) is.tx
      here = Contains-permutation (commits_of s.moves) (serial s.agenda) is.tx structure.committed (subst (λ ts. Contains ts is.tx) (sym is.parts) (contains_back is.front (is.tx ∷ is.back) is.tx (contains_here is.tx is.back)))

      by_slot : (b : Bool) → has_slot s.moves j ≡ b → commits_after s.moves i.tx.number j ≡ (b && nat_lt mark number)
      by_slot false none = after_slotted built base history sound legal i live j none
      by_slot true slotted =
          ap (commits_after s.moves i.tx.number) (sym is.same)
          ∙ after_is_above built base history sound legal i live is.tx here (ap (has_slot s.moves) is.same ∙ slotted) number (ap (number_of_commit s.moves) is.same ∙ number_found s.moves j number is)
          ∙ ap (λ k. nat_lt k number) (mark_until s.moves i.tx.number mark marked)

    pub decidable : IsDecidable s i notes mark writes lives records core.list
    decidable = record {
      active = o;
      open_in = among;
      kind = kind;
      tx = tx;
      noted = notes_so (λ step. IsAskedLook everybody (last_write s.base i.snapshot)) (λ step. IsAskedLook (is_from_floor s) (last_write s.base i.snapshot)) (λ step. Unit {0})
          (λ step holds cell look asked. sure_is_asked (is_from_floor s) (last_write s.base i.snapshot) cell look asked) (numbered o.steps) notes (all_of (λ (x : Numbered Step). Unit {0}) (λ x. tt) (numbered o.steps)) sure;
      marked = marked;
      written = written;
      alike = alike;
      live = lives_are;
      rising = subst (IsPairwise (λ (a b : decisions.Live). a.number < b.number)) (sym lives_are) (lives_rising (live_batches s) (live_rising s structure.opens.rising));
      recorded = recorded;
      listed = stands.agenda.list_is;
      distinct = subst IsDistinct (sym stands.agenda.list_is) (apart_members base s structure);
      slots = λ b among. slot_here built base history sound legal b among;
      strangers = strangers;
    }

  -- the live batch of a session
  module _ (session : ℕ) (a : OpenView) (e : Declared) (mark : ℕ) (here : opened core.opens session ≡ Some a) (stage : a.stage ≡ stages.Live e mark) (x : IsLiveAt core session a e mark s) where
    -- the batch that it is
    abbrev pub asking : LiveBatch
    asking = live_of x.open_tx (declaration e) x.snapshot

    among : Contains s.active x.open_tx
    among = find_contains (is_of session) s.active x.open_tx x.found

    pub asking_live : Contains (live_batches s) asking
    asking_live = live_here s x.open_tx (declaration e) x.snapshot among x.kind

    found : FoundOpen (ground core s) core.opens s.active stands.opens session a
    found = opens_some (ground core s) core.opens s.active stands.opens session a here

    same : found.open_tx ≡ x.open_tx
    same = some_same (sym found.found ∙ x.found)

    as_told : IsOfKind (ground core s) x.open_tx.number x.open_tx.steps a (IsLive (declaration e) x.snapshot) (stages.Live e mark)
    as_told =
        subst (IsOfKind (ground core s) x.open_tx.number x.open_tx.steps a (IsLive (declaration e) x.snapshot)) stage
        (subst (λ k. IsOfKind (ground core s) x.open_tx.number x.open_tx.steps a k a.stage) x.kind
        (subst (λ (u : Active). IsOfKind (ground core s) u.number u.steps a u.kind a.stage) same found.is_open.kind))

    -- Its notes tell the last writers in its snapshot.
    pub asking_notes : AreNotesBy (λ step. IsAskedLook everybody (last_write s.base x.snapshot)) (numbered x.open_tx.steps) a.notes.notes
    asking_notes = as_told.1.notes

    -- All that is asked for is kept.
    pub asking_decidable : (records : Records) → AreRecordsOf s records → (lives : List decisions.Live) → lives ≡ lives_of s → IsDecidable s asking a.notes.notes mark a.own.writes lives records core.list
    asking_decidable records recorded lives lives_are =
        decidable asking asking_live x.open_tx among x.kind refl a.notes.notes mark a.own.writes asking_notes x.slot.slot x.own records recorded lives lives_are
