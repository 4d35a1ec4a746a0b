-- A short that is committed, or refused at its commit.
use Rattle.std.proofs.Common.{◌≡◌, ℕ, ◌+◌, ◌≤◌, Bool, true, false, ◌||◌, ◌==◌, List, [], ◌∷◌, ◌++◌, map, length, Option, Some, None, Contains, ◌⊎◌, inl, inr, append-nil, refl, sym, ap, ◌∙◌, subst, nat_lt, arith}
use Rattle.std.proofs.lemmas.Bool.{eq-eqb}
use Rattle.ltx_model.proofs.CellOrder.{same_cell_same}
use Rattle.std.proofs.lemmas.List.{map-append, length-append, length-map}
use Rattle.std.specs.List.{AllByRecursion}
use Rattle.ltx_model.specs.declared.commands.Op.{Op}
use Rattle.ltx_model.specs.declared.commands.Op.TheVariants.{Get, Scan, Put, Del}
use Rattle.ltx_model.specs.declared.commands.Line.TheVariants.{Good}
use Rattle.ltx_model.specs.declared.replies.Entry.{Entry}
use Rattle.ltx_model.specs.declared.replies.Reply.{Reply}
use Rattle.ltx_model.specs.declared.replies.Reply.TheVariants as replies
use Rattle.ltx_model.specs.Lists.{numbered_from, numbered, without_first}
use Rattle.ltx_model.specs.Keys.{Cell, IsRising}
use Rattle.ltx_model.specs.StoredRows.{cell_of}
use Rattle.ltx_model.specs.Tables.{has_table}
use Rattle.ltx_model.specs.Operations.{Transaction, operations, table_of, touches, writes_at, writes_key, writes_of}
use Rattle.ltx_model.specs.Rows.{rows_after_transaction, run}
use Rattle.ltx_model.specs.LastWrites.{last_write}
use Rattle.ltx_model.specs.Notes.{IsLook, AreNotes}
use Rattle.ltx_model.specs.Decisions.{IsAskedLook}
use Rattle.ltx_model.specs.Records.{AreRecordsOf}
use Rattle.ltx_model.specs.Agenda.{Committed, CommitShort, Timed, has_number, commit_of, commits_of, serial, part_from}
use Rattle.ltx_model.specs.Holders.{is_entered}
use Rattle.ltx_model.specs.States.{Declaration, IsShort, IsLive, Step, Active, Base, IsSound, State, transaction_of, is_of, active_of, latest}
use Rattle.ltx_model.specs.Frames.{ShortEvent, writes_in}
use Rattle.ltx_model.specs.Histories.{to_active, closed, moved, committed, commit_move, ended, state}
use Rattle.ltx_model.specs.Shorts.{Held, Change, holder, held_table}
use Rattle.ltx_model.specs.Verdicts.{Verdict, Passes, RefusedAsHeld, RefusedAsChanged, ops_of, IsVerdict, reply_by}
use Rattle.ltx_model.specs.Answers.{staged, IsLegalWith, commit_in, commit}
use Rattle.ltx_model.specs.Answers as answers
use Rattle.ltx_lemmas.proofs.Lists.{all_push, all_contains, contains_parts, contains_cases, contains_none, from_within, true_false, given_append}
use Rattle.ltx_lemmas.proofs.Rising.{rising_run}
use Rattle.ltx_lemmas.proofs.Serials.{serial_push}
use Rattle.ltx_laws.specs.Structure.{Structure, StandsAs, Stands, IsLiveBatch}
use Rattle.ltx_laws.proofs.NumberLists.{numbers_after}
use Rattle.ltx_laws.proofs.ReadsKept.{steps_ops}
use Rattle.ltx_laws.proofs.Spared.{live_here}
use Rattle.ltx_laws.proofs.Structures.{structure_of}
use Rattle.ltx_laws.proofs.WitnessHolders.{holder_none}
use Rattle.ltx_chain.specs.Versions as versions
use Rattle.ltx_reads.specs.Noted.{HasNoted}
use Rattle.ltx_store.specs.Kept.{versions_at, rows_at, latest_rows}
use Rattle.ltx_validate.specs.Verdicts.{AreMarkedAt, AreHolders}
use Rattle.ltx_open.specs.declared.stage.Stage.TheVariants as stages
use Rattle.ltx_core.specs.Built.{built}
use Rattle.ltx_core.specs.Since.{has_batch_since}
use Rattle.ltx_open.specs.Views.{OpenView}
use Rattle.ltx_core.specs.Views.{CoreView}
use Rattle.ltx_open.specs.Slots.{opened, HasAt}
use Rattle.ltx_core.specs.Installed.{HasInstalled}
use Rattle.ltx_core.specs.Commits.{HasCommitted}
use Rattle.ltx_core.specs.Recorded.{is_any_live, HasRecordedShort}
use Rattle.ltx_core.specs.Stands.{Ground, ground, everybody, write_seen, WritesNone, IsShortOpen, IsSlotAt, IsSlotOf, HasMark, HasAgenda, HasStore, HasOpens, StandsAt, batches_of}
use Rattle.ltx_core.specs.Logged.{IsLogged}
use Rattle.ltx_core.specs.Steps.{Steps, Logs}
use Rattle.ltx_core.proofs.Grounds.{IsLater, KeepsSlot, open_later}
use Rattle.ltx_core.proofs.OpensKept.{as_short, opens_on, FoundOpen, opens_ended}
use Rattle.ltx_core.proofs.Ended.{some_open, left_core, ended_stands}
use Rattle.ltx_core.proofs.StandsStill.{staged_is, leads}
use Rattle.ltx_core.proofs.Installed.{marks_installed, rows_installed}
use Rattle.ltx_core.proofs.LastSeen.{asked_is_look, notes_so}
use Rattle.ltx_core.proofs.MarkedNotes.{marked_at}
use Rattle.ltx_core.proofs.Held.{are_holders, replied_by}
use Rattle.ltx_core.proofs.HomeRuns.{AreUnwritten, rows_between, written_between}
use Rattle.ltx_core.proofs.SlotsLater.{or_false, slot_later, since_later}
use Rattle.ltx_core.proofs.CommittedHome.{seen_before}
use Rattle.ltx_core.proofs.LiveAreas.{areas_short}
use Rattle.ltx_core.proofs.LogSteps.{logged_after, logged_event}
use Rattle.ltx_core.proofs.RecordsKept.{IsNoted, no_holders, noted_as, short_recorded, short_counted}
use Rattle.ltx_core.proofs.Batches.{without_short}
use Rattle.ltx_core.proofs.HoldersLess.{entered_gone}
use Rattle.ltx_core.proofs.HomeAnswers.{commits_at}

-- what a verdict says of a short's notes, by whoever the holders are
abbrev pub JudgedBy : CoreView → OpenView → Verdict → Type 0
JudgedBy old a verdict = (steps : List Step) → AreNotes steps a.notes.notes → AreMarkedAt (λ mark. rows_at mark old.store) steps a.notes.marks → (holder : ℕ → Option ℕ) → AreHolders old.preserve holder
    → IsVerdict holder (latest_rows old.store) steps verdict

-- the notes of a short tell the writers of the rows on which its steps were answered
numbered_items : (P : Step → Type 0) (n : ℕ) (earlier steps : List Step) → AllByRecursion P steps → AllByRecursion (λ o. P o.item) (numbered_from n earlier steps)
numbered_items P n earlier [] all = tt
numbered_items P n earlier (b ∷ bs) all = (all.0, numbered_items P (n + 1) (earlier ++ b ∷ []) bs all.1)

notes_of_steps : (g : Ground) (steps : List Step) (a : OpenView) → IsRising cell_of g.base → IsShortOpen g steps a → AreNotes steps a.notes.notes
notes_of_steps g steps a rising is =
    notes_so (λ step. IsAskedLook everybody (last_write g.base step.order)) (λ step. IsLook step.latest) (λ step. step.latest ≡ run g.base step.order)
    (λ step at cell look asked. subst (λ rows. IsLook rows cell look) (sym at) (asked_is_look g.base step.order cell look rising asked)) (numbered steps) a.notes.notes (numbered_items (λ step. step.latest ≡ run g.base step.order) 1 [] steps is.moments) is.notes

-- or what is true
or_true : (b : Bool) → (b || true) ≡ true
or_true true = refl
or_true false = refl

-- a write touches its table
touches_written : (ops : List Op) (cell : Cell) → writes_key ops cell ≡ true → touches ops cell.table ≡ true
touches_written [] cell is = absurd (true_false (sym is))
touches_written (op ∷ ops) cell is = by_test (writes_at cell op) refl is (touches_written ops cell) where
  in_table : (op : Op) → writes_at cell op ≡ true → (table_of op == cell.table) ≡ true
  in_table (Get table key) is = absurd (true_false (sym is))
  in_table (Scan table low high) is = absurd (true_false (sym is))
  in_table (Put table key value) is = eq-eqb table cell.table (ap (λ (c : Cell). c.table) (same_cell_same (record { table = table; key = key }) cell is))
  in_table (Del table key) is = eq-eqb table cell.table (ap (λ (c : Cell). c.table) (same_cell_same (record { table = table; key = key }) cell is))

  by_test : (b : Bool) → writes_at cell op ≡ b → (b || writes_key ops cell) ≡ true → (writes_key ops cell ≡ true → touches ops cell.table ≡ true) → ((table_of op == cell.table) || touches ops cell.table) ≡ true
  by_test true here is later = ap (λ b. b || touches ops cell.table) (in_table op here)
  by_test false none is later = ap (λ b. (table_of op == cell.table) || b) (later is) ∙ or_true (table_of op == cell.table)

module _ (old : CoreView) (session : ℕ) (a : OpenView) (here : opened old.opens session ≡ Some a) (short : a.stage ≡ stages.Short) (base : Base) (history : List Entry) (sound : IsSound base) (legal : IsLegalWith built base history)
    (stands : StandsAt old (state base history)) where
  abbrev s : State
  s = state base history

  structure : Structure base s
  structure = structure_of built base history legal

  found : FoundOpen (ground old s) old.opens s.active stands.opens session a
  found = some_open old session s stands a here

  abbrev o : Active
  o = found.open_tx

  rising : IsRising cell_of s.base
  rising = subst (IsRising cell_of) (sym structure.rows) sound.rising

  is_short : (found.open_tx.kind ≡ IsShort) × IsShortOpen (ground old s) found.open_tx.steps a
  is_short = as_short (ground old s) found.open_tx.number found.open_tx.steps a found.open_tx.kind a.stage short found.is_open.kind

  -- the verdict in the state
  judged_now : (v : Verdict) → JudgedBy old a v → IsVerdict (holder s) (latest s) found.open_tx.steps v
  judged_now v judged =
      subst (λ rows. IsVerdict (holder s) rows found.open_tx.steps v) stands.store.rows
      (judged found.open_tx.steps (notes_of_steps (ground old s) found.open_tx.steps a rising is_short.1) (marked_at old.store old.commits found.open_tx.steps a.notes.marks is_short.1.marks)
      (holder s) (are_holders base s structure old.preserve stands.holders))

  -- its reply
  replied : (v : Verdict) → JudgedBy old a v → reply_by s v ≡ commit s (active_of s session)
  replied v judged =
      sym (ap (commit s) found.found ∙ ap (λ k. commit_in s k found.open_tx) is_short.0 ∙ ap (λ ops. answers.commit_short s (held_table s ops) found.open_tx) (steps_ops found.open_tx.steps) ∙ replied_by base s structure found.open_tx is_short.1.rising v (judged_now v judged))

  -- no table that a live batch declared is written
  spares : JudgedBy old a Passes → (u : Active) (d : Declaration) (snapshot : List Transaction) → Contains s.active u → u.kind ≡ IsLive d snapshot → WritesNone d.writes (transaction_of found.open_tx)
  spares judged u d snapshot among live cell writes = by_holder (holder s cell.table) refl where
    touched : touches (ops_of found.open_tx.steps) cell.table ≡ true
    touched = touches_written (ops_of found.open_tx.steps) cell (sym (ap (λ l. writes_key l cell) (steps_ops found.open_tx.steps)) ∙ writes)

    by_holder : (h : Option ℕ) → holder s cell.table ≡ h → has_table d.writes cell.table ≡ false
    by_holder None is = holder_none s cell.table is _ (live_here s u d snapshot among live)
    by_holder (Some n) is = absurd ((judged_now Passes judged).0 cell.table n touched is)

  -- it is committed: it stands last, and its writes are installed
  module _ (judged : JudgedBy old a Passes) (new : CoreView) (done : HasCommitted old session a new) where
    abbrev t : Transaction
    t = transaction_of found.open_tx

    abbrev move : Timed
    move = record { epoch = s.epoch; move = CommitShort t }

    abbrev after : State
    after = moved (closed s session) s.epoch (CommitShort t)

    number_is : a.number ≡ found.open_tx.number
    number_is = found.is_open.number

    own : a.own.writes ≡ writes_of (operations t)
    own = found.is_open.own ∙ ap writes_of (sym (steps_ops found.open_tx.steps))

    installed : HasInstalled old.store new.store t.number (old.commits + 1) (writes_of (operations t))
    installed = subst (λ ws. HasInstalled old.store new.store t.number (old.commits + 1) ws) own (subst (λ n. HasInstalled old.store new.store n (old.commits + 1) a.own.writes) number_is done.installed)

    serial_is : serial (s.agenda ++ Committed t ∷ []) ≡ serial s.agenda ++ t ∷ []
    serial_is = serial_push s.agenda t

    commits_are : commits_of (s.moves ++ move ∷ []) ≡ commits_of s.moves ++ t ∷ []
    commits_are = given_append (λ (m : Timed). commit_of m.move) s.moves (move ∷ [])

    numbers_are : map (λ u. u.number) (commits_of (s.moves ++ move ∷ [])) ≡ map (λ u. u.number) (commits_of s.moves) ++ t.number ∷ []
    numbers_are = ap (map (λ u. u.number)) commits_are ∙ map-append (λ (u : Transaction). u.number) (commits_of s.moves) (t ∷ [])

    mark_is : old.commits + 1 ≡ length (map (λ u. u.number) (commits_of s.moves)) + 1
    mark_is = ap (λ n. n + 1) (stands.agenda.count_is ∙ sym (length-map (commits_of s.moves) (λ (u : Transaction). u.number)))

    nobody_behind : AreUnwritten t []
    nobody_behind cell writes = tt

    old_rising : IsRising cell_of (latest_rows old.store)
    old_rising = subst (IsRising cell_of) (sym stands.store.rows) (rising_run s.base (serial s.agenda) rising)

    before : (cell : Cell) → write_seen (versions.latest (versions_at old.store cell)) ≡ last_write s.base (serial s.agenda ++ []) cell
    before cell = stands.store.written cell ∙ ap (λ ts. last_write s.base ts cell) (sym (append-nil (serial s.agenda)))

    store_now : HasStore new.store s.base (run s.base (serial (s.agenda ++ Committed t ∷ []))) (serial (s.agenda ++ Committed t ∷ [])) (commits_of (s.moves ++ move ∷ []))
    store_now = record {
      rows = rows_installed old.store new.store t.number (old.commits + 1) (writes_of (operations t)) (operations t) refl old_rising installed
          ∙ ap (λ rows. rows_after_transaction rows t) (stands.store.rows ∙ ap (run s.base) (sym (append-nil (serial s.agenda))))
          ∙ rows_between s.base (serial s.agenda) t [] nobody_behind rising
          ∙ ap (run s.base) (sym serial_is);
      written = subst (λ ts. (cell : Cell) → write_seen (versions.latest (versions_at new.store cell)) ≡ last_write s.base ts cell) (sym serial_is)
          (written_between s.base (serial s.agenda) t [] nobody_behind old.store new.store (old.commits + 1) installed before);
      marks = subst (λ ns. (cell : Cell) → AllByRecursion (HasMark s.base ns cell) (versions_at new.store cell)) (sym numbers_are)
          (marks_installed s.base old.store new.store (map (λ u. u.number) (commits_of s.moves)) t.number (old.commits + 1) (writes_of (operations t)) mark_is installed stands.store.marks);
    }

    batches_left : batches_of (without_first (is_of session) s.active) ≡ batches_of s.active
    batches_left = without_short session s.active found.open_tx found.found is_short.0

    unentered : is_entered old.preserve t.number ≡ false
    unentered = ap (λ hs. is_entered hs t.number) (stands.holders ∙ sym batches_left) ∙ entered_gone s.active session found.open_tx structure.opens.rising found.found

    agenda_now : HasAgenda new.list new.commits new.batch new.preserve (s.agenda ++ Committed t ∷ []) (s.moves ++ move ∷ [])
    agenda_now =
        let more : new.commits ≡ old.commits + 1 = done.commits in
        let batch : new.batch ≡ old.batch = done.batch in
        let within : old.batch ≤ old.commits = stands.agenda.batch_within in
        record {
          list_is = done.list ∙ ap (λ n. old.list ++ n ∷ []) number_is ∙ ap (λ l. l ++ t.number ∷ []) stands.agenda.list_is ∙ sym (numbers_after s.agenda (CommitShort t));
          count_is = done.commits ∙ ap (λ n. n + 1) stands.agenda.count_is ∙ sym (ap length commits_are ∙ length-append (commits_of s.moves) (t ∷ []));
          batch_within = omega arith;
          slots = subst (λ hs. AllByRecursion (IsSlotOf hs) (s.agenda ++ Committed t ∷ [])) (sym done.preserve) (all_push (IsSlotOf old.preserve) s.agenda (Committed t) stands.agenda.slots unentered);
        }

    later : IsLater (ground old s) (ground new after)
    later =
        let more : new.commits ≡ old.commits + 1 = done.commits in
        record {
          base = refl;
          more = omega arith;
          rows = λ m within. installed.before m (omega arith);
          seen = λ m within cell. seen_before old.store new.store t.number (old.commits + 1) m (writes_of (operations t)) (omega arith) installed cell;
        }

    keeps : (u : Active) → Contains s.active u → KeepsSlot (ground old s) (ground new after) u.number u.kind
    keeps u among d snapshot mark live at =
        let within : mark ≤ old.commits = at.within in
        let more : new.commits ≡ old.commits + 1 = done.commits in
        let since : has_batch_since (s.moves ++ move ∷ []) u.number ≡ has_batch_since s.moves u.number = since_later s.moves (move ∷ []) u.number mark at.slot ∙ or_false (has_batch_since s.moves u.number) in
        record {
          within = omega arith;
          slot = slot_later s.moves (move ∷ []) u.number mark at.slot;
          since = since ∙ at.since ∙ ap (λ n. nat_lt mark n) (sym done.batch);
          unwritten = λ none v behind. by_place at (sym since ∙ none) v (contains_parts (serial (part_from u.number s.agenda)) (t ∷ []) v (subst (λ ts. Contains ts v) parts behind));
        } where
          standing : IsLiveBatch s.agenda s.moves u.number d snapshot u.steps
          standing = subst (λ k. StandsAs s.agenda s.moves k u.number u.steps) live (all_contains (Stands s.agenda s.moves) s.active u structure.stands among)

          parts : serial (part_from u.number (s.agenda ++ Committed t ∷ [])) ≡ serial (part_from u.number s.agenda) ++ t ∷ []
          parts = ap serial (from_within (has_number u.number) s.agenda (Committed t ∷ []) standing.member) ∙ serial_push (part_from u.number s.agenda) t

          by_place : IsSlotAt (ground old s) u.number d.writes mark → has_batch_since s.moves u.number ≡ false → (v : Transaction) → Contains (serial (part_from u.number s.agenda)) v ⊎ Contains (t ∷ []) v → WritesNone d.writes v
          by_place at none v (inl before) = at.unwritten none v before
          by_place at none v (inr last) = by_last (contains_cases t [] v last) where
            by_last : (t ≡ v) ⊎ Contains [] v → WritesNone d.writes v
            by_last (inl same) = subst (WritesNone d.writes) same (spares judged u d snapshot among live)
            by_last (inr none) = absurd (contains_none v none)

    opens_now : HasOpens (ground new after) new.opens (without_first (is_of session) s.active)
    opens_now =
        opens_ended (ground new after) old.opens s.active
        (opens_on (ground old s) old.opens s.active stands.opens (ground new after) (λ u b among is. open_later (ground old s) (ground new after) later u b (keeps u among) is))
        session found.open_tx new.opens found.found done.opens

    noted : HasNoted old.records a.number false a.notes.notes a.own.writes new.records → IsNoted old.records new.records t false
    noted has =
        noted_as old.records new.records found.open_tx false (λ step. IsAskedLook everybody (last_write s.base step.order)) a.notes.notes a.own.writes is_short.1.notes own has.entry has.kept has.commits (has.number ∙ number_is) has.kind has.mark has.looks has.written

    records_now : (b : Bool) → is_any_live old.preserve ≡ b → HasRecordedShort b old.records a new.records → AreRecordsOf after new.records
    records_now true some has = short_recorded base s structure session found.open_tx found.found is_short.0 old.records new.records stands.records (noted has)
    records_now false none has =
        subst (AreRecordsOf after) (sym has)
        (short_counted base s structure session found.open_tx found.found is_short.0 old.records (no_holders (without_first (is_of session) s.active) (ap is_any_live (batches_left ∙ sym stands.holders) ∙ none)) stands.records)

    accepted : StandsAt new (moved (closed s session) s.epoch (CommitShort (transaction_of found.open_tx)))
    accepted = record {
      counters = done.counters ∙ stands.counters;
      agenda = agenda_now;
      holders = done.preserve ∙ stands.holders ∙ sym batches_left;
      store = store_now;
      opens = opens_now;
      records = records_now (is_any_live old.preserve) refl done.records;
      areas = done.areas ∙ stands.areas ∙ sym (areas_short session s.active found.open_tx found.found is_short.0);
    }

    pub accepted_stands : StandsAt new (to_active s (active_of s session) (λ u. committed s u session))
    accepted_stands =
        subst (λ f. StandsAt new (to_active s f (λ u. committed s u session))) (sym found.found)
        (subst (λ k. StandsAt new (moved (closed s session) s.epoch (commit_move k (transaction_of found.open_tx)))) (sym is_short.0) accepted)

-- the short is refused: by a held table, or by a change
pub commit_held : (old : CoreView) (session room : ℕ) (a : OpenView) (h : Held) (opens : List (Option OpenView)) → opened old.opens session ≡ Some a → a.stage ≡ stages.Short → JudgedBy old a (RefusedAsHeld h) → HasAt old.opens session None opens
    → Steps old (commits_at session) (replies.Preserved h.table h.holder) (left_core old room stages.Short a.number opens)
commit_held old session room a h opens here short judged at base history sound legal stands =
    let s : State = state base history in
    leads base history (Good (commits_at session)) (replies.Preserved h.table h.holder) (replies.Preserved h.table h.holder) (left_core old room stages.Short a.number opens)
    (replied old session a here short base history sound legal stands (RefusedAsHeld h) judged ∙ staged_is s (commits_at session)) refl
    (subst (λ g. StandsAt (left_core old room g a.number opens) (to_active s (active_of s session) (λ u. ended s u session))) short
    (ended_stands old session base history sound legal stands room a opens here at))

pub commit_changed : (old : CoreView) (session room : ℕ) (a : OpenView) (c : Change) (opens : List (Option OpenView)) → opened old.opens session ≡ Some a → a.stage ≡ stages.Short → JudgedBy old a (RefusedAsChanged c) → HasAt old.opens session None opens
    → Steps old (commits_at session) (replies.Changed c.op c.cell.table c.cell.key c.found c.current) (left_core old room stages.Short a.number opens)
commit_changed old session room a c opens here short judged at base history sound legal stands =
    let s : State = state base history in
    leads base history (Good (commits_at session)) (replies.Changed c.op c.cell.table c.cell.key c.found c.current) (replies.Changed c.op c.cell.table c.cell.key c.found c.current) (left_core old room stages.Short a.number opens)
    (replied old session a here short base history sound legal stands (RefusedAsChanged c) judged ∙ staged_is s (commits_at session)) refl
    (subst (λ g. StandsAt (left_core old room g a.number opens) (to_active s (active_of s session) (λ u. ended s u session))) short
    (ended_stands old session base history sound legal stands room a opens here at))

-- the short is committed
pub commit_passed : (old : CoreView) (session : ℕ) (a : OpenView) (reply : Reply) (new : CoreView) → opened old.opens session ≡ Some a → a.stage ≡ stages.Short → JudgedBy old a Passes → reply ≡ replies.Committed old.counters.epoch → HasCommitted old session a new
    → Steps old (commits_at session) reply new
commit_passed old session a reply new here short judged says done base history sound legal stands =
    let s : State = state base history in
    leads base history (Good (commits_at session)) (replies.Committed s.epoch) reply new
    (replied old session a here short base history sound legal stands Passes judged ∙ staged_is s (commits_at session))
    (says ∙ ap (λ c. replies.Committed c.epoch) stands.counters) (accepted_stands old session a here short base history sound legal stands judged new done)

-- and its event is kept for the log
pub passed_logs : (old : CoreView) (session : ℕ) (a : OpenView) (reply : Reply) (new : CoreView) → opened old.opens session ≡ Some a → a.stage ≡ stages.Short → JudgedBy old a Passes → reply ≡ replies.Committed old.counters.epoch → HasCommitted old session a new
    → Logs old (commits_at session) reply new
passed_logs old session a reply new here short judged says done base history sound legal stands =
    let s : State = state base history in
    let found : FoundOpen (ground old s) old.opens s.active stands.at.opens session a = some_open old session s stands.at a here in
    let kind : found.open_tx.kind ≡ IsShort = (as_short (ground old s) found.open_tx.number found.open_tx.steps a found.open_tx.kind a.stage short found.is_open.kind).0 in
    let t : Transaction = transaction_of found.open_tx in
    let own : a.own.writes ≡ writes_in t = found.is_open.own ∙ ap writes_of (sym (steps_ops found.open_tx.steps)) in
    let event : ShortEvent a.number old.counters.epoch a.own.writes ≡ ShortEvent t.number s.epoch (writes_in t) = λ i. ShortEvent (found.is_open.number i) (stands.at.counters i).epoch (own i) in
    logged_after new.log base history (Good (commits_at session)) (replies.Committed s.epoch) reply (says ∙ ap (λ c. replies.Committed c.epoch) stands.at.counters)
    (subst (λ f. IsLogged new.log (to_active s f (λ u. committed s u session))) (sym found.found)
    (subst (λ k. IsLogged new.log (moved (closed s session) s.epoch (commit_move k t))) (sym kind)
    (logged_event old.log new.log s session (CommitShort t) (ShortEvent a.number old.counters.epoch a.own.writes) (ShortEvent t.number s.epoch (writes_in t)) done.log event refl stands.logged)))
