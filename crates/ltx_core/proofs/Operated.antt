-- An operation of a session's open transaction: what it is answered, and what it leaves.
use Rattle.std.proofs.Common.{◌≡◌, ℕ, ◌+◌, ◌<◌, ◌≤◌, nat_le, Result, IfOk, OnErr, Bool, true, false, cond, List, [], ◌∷◌, ◌++◌, map, length, Option, Some, None, append-nil, append_assoc, refl, sym, ap, ◌∙◌, subst}
use Rattle.std.specs.List.{cons_option}
use Rattle.std.specs.Option.{option_map}
use Rattle.std.proofs.lemmas.List.{map-append}
use Rattle.std.proofs.lemmas.Bool.{le-leb, lt-leb, leb-true, leb-false}
use Rattle.ltx_model.specs.declared.commands.Op.{Op}
use Rattle.ltx_model.specs.declared.commands.Op.TheVariants.{Get, Scan, Put, Del}
use Rattle.ltx_model.specs.declared.commands.Verb.TheVariants as verbs
use Rattle.ltx_model.specs.declared.commands.Command.{Command}
use Rattle.ltx_model.specs.declared.commands.Command.TheVariants as commands
use Rattle.ltx_model.specs.declared.commands.Line.{Line}
use Rattle.ltx_model.specs.declared.commands.Line.TheVariants as lines
use Rattle.ltx_model.specs.declared.looked.Noted.{Noted}
use Rattle.ltx_model.specs.declared.replies.Entry.{Entry}
use Rattle.ltx_model.specs.declared.replies.Reply.{Reply}
use Rattle.ltx_model.specs.declared.replies.Reply.TheVariants as replies
use Rattle.ltx_model.specs.declared.rows.StoredRow.{StoredRow}
use Rattle.ltx_model.specs.declared.writes.Look.{Look}
use Rattle.ltx_model.specs.Lists.{numbered, numbered_from, change_first}
use Rattle.ltx_model.specs.Keys.{Cell, IsRising}
use Rattle.ltx_model.specs.StoredRows.{cell_of, row_at}
use Rattle.ltx_model.specs.Tables.{has_table}
use Rattle.ltx_model.specs.Operations.{operations, table_of, put_write, write_of, writes_of}
use Rattle.ltx_model.specs.Rows.{rows_after_all, reply_on, found, see, run}
use Rattle.ltx_model.specs.LastWrites.{LastWrite, last_write}
use Rattle.ltx_model.specs.Agenda.{serial}
use Rattle.ltx_model.specs.Notes.{IsNoteBy, AreNotesBy}
use Rattle.ltx_model.specs.Decisions.{IsAskedLook}
use Rattle.ltx_model.specs.States.{Kind, IsShort, IsPending, IsLive, Declaration, Step, Active, Base, IsSound, State, answered_of, transaction_of, is_of, active_of, latest, live_batches}
use Rattle.ltx_model.specs.Shorts.{holder}
use Rattle.ltx_model.specs.Holders.{IsLeastHolder, IsHeldBy, holder_of, holders_of}
use Rattle.ltx_model.specs.Histories.{answered, with_step, ended, reply_changes, to_active, state}
use Rattle.ltx_model.specs.Answers.{operation, operation_in, operation_of_short, operation_of_batch, counted, is_full, unless_in, refusal, staged, IsLegalWith}
use Rattle.ltx_model.specs.Limits.{most_operations}
use Rattle.ltx_model.proofs.OneMore.{see-is}
use Rattle.ltx_lemmas.proofs.Lists.{all_push, some_same, none_some, true_false}
use Rattle.ltx_laws.specs.Structure.{Structure}
use Rattle.ltx_laws.proofs.HolderStates.{least_is_held, held_is_least}
use Rattle.ltx_laws.proofs.Structures.{structure_of}
use Rattle.ltx_laws.proofs.WitnessHolders.{AreRising, live_rising, holder_held, held_holder}
use Rattle.ltx_buffer.proofs.Merges.{writes_of-push}
use Rattle.ltx_chain.proofs.Seen.{visible_latest}
use Rattle.ltx_chain.specs.Versions.{visible}
use Rattle.ltx_store.specs.Kept.{rows_at, AreUpTo, versions_at}
use Rattle.ltx_store.proofs.Changes.{latest_at, up_to_items}
use Rattle.ltx_open.specs.declared.stage.Declared.{Declared}
use Rattle.ltx_open.specs.declared.stage.Stage.{Stage}
use Rattle.ltx_open.specs.declared.stage.Stage.TheVariants as stages
use Rattle.ltx_core.specs.Built.{built}
use Rattle.ltx_open.specs.Views.{OpenView, declaration}
use Rattle.ltx_core.specs.Views.{CoreView, IsWithin}
use Rattle.ltx_open.specs.Slots.{opened, HasAt}
use Rattle.ltx_open.specs.Operations.{IsSeenLook, HasDone, HasMore}
use Rattle.ltx_open.specs.Same.{AreSameOpens}
use Rattle.ltx_core.specs.Same.{IsSame}
use Rattle.ltx_core.specs.Stands.{Ground, ground, everybody, write_seen, AreMarked, IsShortOpen, IsLiveOpen, IsOfKind, IsOpen, batches_of, StandsAt, IsStanding}
use Rattle.ltx_core.specs.Steps.{IsStep, Steps, IsCore}
use Rattle.ltx_core.proofs.LiveAreas.{areas_stepped}
use Rattle.ltx_core.proofs.RecordsKept.{records_answered}
use Rattle.ltx_core.proofs.CoreSteps.{core_step_from, core_same_from}
use Rattle.ltx_core.proofs.Ended.{none_open, some_open, left_core, with_opens, same_but_opens, ended_stands}
use Rattle.ltx_core.proofs.LastSeen.{seen_is_asked, note_so}
use Rattle.ltx_core.proofs.MarkedNotes.{marks_push}
use Rattle.ltx_core.proofs.OpensKept.{as_short, as_pending, as_live_open, FoundLive, FoundOpen, opens_changed, full_is}
use Rattle.ltx_open.proofs.Results.{if_both_ok, by_result}
use Rattle.ltx_core.proofs.RisingRows.{latest_rising}
use Rattle.ltx_core.proofs.StandsStill.{staged_is, leads, stays, same_core}

abbrev pub asks : ℕ → Op → Command
asks session op = commands.Ask session (verbs.Do op)

-- the least holder is the first live batch that holds the table
holder_is : (s : State) → AreRising (live_batches s) → (table : ℕ) (r : Option ℕ) → IsHeldBy (holders_of s) table r → holder s table ≡ r
holder_is s rising table (Some n) held = held_holder s rising table n (least_is_held s table n held)
holder_is s rising table None held = by_holder (holder s table) refl where
  by_holder : (o : Option ℕ) → holder s table ≡ o → o ≡ None
  by_holder None is = refl
  by_holder (Some n) is =
      let least : IsLeastHolder (holders_of s) table n = held_is_least s table n (holder_held s rising table n is) in
      absurd (true_false (sym least.holds ∙ held least.holder least.here))

-- the operations of a transaction's steps
ops_answered : (steps : List Step) → map (λ a. a.op) (map answered_of steps) ≡ map (λ b. b.op) steps
ops_answered [] = refl
ops_answered (b ∷ bs) = ap (λ l. b.op ∷ l) (ops_answered bs)

-- what a reply to an operation changes: it is added to the session's transaction
answers : (s : State) (session : ℕ) (op : Op) (rows : List StoredRow) → reply_changes s (lines.Good (asks session op)) (reply_on rows op) ≡ answered s op (reply_on rows op) session
answers s session (Get table key) rows = by_row (row_at rows (record { table = table; key = key })) where
  by_row : (r : Option StoredRow) → reply_changes s (lines.Good (asks session (Get table key))) (found r) ≡ answered s (Get table key) (found r) session
  by_row None = refl
  by_row (Some row) = refl
answers s session (Scan table low high) rows = refl
answers s session (Put table key value) rows = refl
answers s session (Del table key) rows = refl

seen_changes : (s : State) (session : ℕ) (op : Op) (tx : ℕ) (rows : List StoredRow) (ops : List Op) (reply : Reply) → reply ≡ see tx rows ops op → reply_changes s (lines.Good (asks session op)) reply ≡ answered s op reply session
seen_changes s session op tx rows ops reply is =
    let on : reply ≡ reply_on (rows_after_all tx rows ops) op = is ∙ see-is tx rows ops op in
    subst (λ r. reply_changes s (lines.Good (asks session op)) r ≡ answered s op r session) (sym on) (answers s session op (rows_after_all tx rows ops))

-- a refusal changes nothing
unless_quiet : (s : State) (line : Line) (b : Bool) (r reply : Reply) → reply_changes s line r ≡ s → unless_in b r ≡ Some reply → reply_changes s line reply ≡ s
unless_quiet s line true r reply quiet is = absurd (none_some is)
unless_quiet s line false r reply quiet is = ap (reply_changes s line) (sym (some_same is)) ∙ quiet

refusal_quiet : (s : State) (session : ℕ) (op : Op) (d : Declaration) (reply : Reply) → refusal d op ≡ Some reply → reply_changes s (lines.Good (asks session op)) reply ≡ s
refusal_quiet s session (Get table key) d reply is = unless_quiet s (lines.Good (asks session (Get table key))) (has_table d.reads table) (replies.Outside table) reply refl is
refusal_quiet s session (Scan table low high) d reply is = unless_quiet s (lines.Good (asks session (Scan table low high))) (has_table d.reads table) (replies.Outside table) reply refl is
refusal_quiet s session (Put table key value) d reply is = unless_quiet s (lines.Good (asks session (Put table key value))) (has_table d.writes table) (replies.NotPreserved table) reply refl is
refusal_quiet s session (Del table key) d reply is = unless_quiet s (lines.Good (asks session (Del table key))) (has_table d.writes table) (replies.NotPreserved table) reply refl is

-- a step more leaves the batches as they are
batches_stepped : (test : Active → Bool) (step : Step) (os : List Active) → batches_of (change_first test (with_step step) os) ≡ batches_of os
batches_stepped test step [] = refl
batches_stepped test step (o ∷ os) = by_test (test o) (batches_stepped test step os) where
  by_test : (b : Bool) → batches_of (change_first test (with_step step) os) ≡ batches_of os → batches_of (cond b (with_step step o ∷ os) (o ∷ change_first test (with_step step) os)) ≡ batches_of (o ∷ os)
  by_test true later = refl
  by_test false later = ap (cons_option (holder_of o.kind o.number)) later

-- one step more, with its note
module _ (tells : Step → Cell → Option Look → Type 0) (b : Step) (note : Noted) where
  notes_more : (n : ℕ) (earlier steps : List Step) (notes : List Noted) → AreNotesBy tells (numbered_from n earlier steps) notes → IsNoteBy (tells b) (map (λ d. d.op) (earlier ++ steps)) b.op note
      → AreNotesBy tells (numbered_from n earlier (steps ++ b ∷ [])) (notes ++ note ∷ [])
  notes_more n earlier [] [] are is = (subst (λ (l : List Step). IsNoteBy (tells b) (map (λ d. d.op) l) b.op note) (append-nil earlier) is, tt)
  notes_more n earlier [] (m ∷ ms) are is = absurd are
  notes_more n earlier (c ∷ cs) [] are is = absurd are
  notes_more n earlier (c ∷ cs) (m ∷ ms) are is =
      (are.0, notes_more (n + 1) (earlier ++ c ∷ []) cs ms are.1 (subst (λ (l : List Step). IsNoteBy (tells b) (map (λ d. d.op) l) b.op note) (sym (append_assoc earlier (c ∷ []) cs)) is))

  notes_push : (steps : List Step) (notes : List Noted) → AreNotesBy tells (numbered steps) notes → IsNoteBy (tells b) (map (λ d. d.op) steps) b.op note → AreNotesBy tells (numbered (steps ++ b ∷ [])) (notes ++ note ∷ [])
  notes_push steps notes are is = notes_more 1 [] steps notes are is

-- An operation of a session at a core that stands for a history.
module _ (old : CoreView) (session : ℕ) (op : Op) (base : Base) (history : List Entry) (sound : IsSound base) (legal : IsLegalWith built base history) (stands : StandsAt old (state base history)) where
  abbrev s : State
  s = state base history

  abbrev g : Ground
  g = ground old s

  shape : Structure base s
  shape = structure_of built base history legal

  -- the session has no open transaction
  pub operated_none : opened old.opens session ≡ None → IsStep old base history (lines.Good (asks session op)) replies.NoTx
  operated_none none =
      stays old old (asks session op) replies.NoTx base history (same_core old old refl) stands replies.NoTx
      (ap (λ u. operation s u op) (sym (none_open old session s stands none)) ∙ staged_is s (asks session op)) refl refl

  module _ (a : OpenView) (here : opened old.opens session ≡ Some a) where
    found_tx : FoundOpen g old.opens s.active stands.opens session a
    found_tx = some_open old session s stands a here

    abbrev o : Active
    o = found_tx.open_tx

    -- what the state answers, by what the transaction is
    by_kind : (kind : Kind) → o.kind ≡ kind → operation_in s kind (transaction_of o) op ≡ staged built s (lines.Good (asks session op))
    by_kind kind is =
        ap (λ k. operation_in s k (transaction_of o) op) (sym is) ∙ ap (λ u. operation s u op) (sym found_tx.found) ∙ staged_is s (asks session op)

    -- a pending batch
    pub operated_pending : (e : Declared) → a.stage ≡ stages.Pending e → IsStep old base history (lines.Good (asks session op)) (replies.NotYet e.from)
    operated_pending e is =
        let pending : o.kind ≡ IsPending (declaration e) = (as_pending g _ _ a o.kind a.stage e is found_tx.is_open.kind).0 in
        stays old old (asks session op) (replies.NotYet e.from) base history (same_core old old refl) stands (replies.NotYet e.from) (by_kind (IsPending (declaration e)) pending) refl refl

    -- a short at a table that somebody holds
    short_is : a.stage ≡ stages.Short → (o.kind ≡ IsShort) × IsShortOpen g o.steps a
    short_is is = as_short g _ _ a o.kind a.stage is found_tx.is_open.kind

    by_holder : a.stage ≡ stages.Short → (r : Option ℕ) → IsHeldBy old.preserve (table_of op) r → operation_of_short s r (transaction_of o) op ≡ staged built s (lines.Good (asks session op))
    by_holder is r held =
        ap (λ h. operation_of_short s h (transaction_of o) op) (sym (holder_is s (live_rising s shape.opens.rising) (table_of op) r (subst (λ hs. IsHeldBy hs (table_of op) r) stands.holders held)))
        ∙ by_kind IsShort (short_is is).0

    pub operated_held : a.stage ≡ stages.Short → (n : ℕ) → IsHeldBy old.preserve (table_of op) (Some n) → (opens : List (Option OpenView)) → HasAt old.opens session None opens
        → IsStep (with_opens old opens) base history (lines.Good (asks session op)) (replies.Preserved (table_of op) n)
    operated_held is n held opens at =
        leads base history (lines.Good (asks session op)) (replies.Preserved (table_of op) n) (replies.Preserved (table_of op) n) _ (by_holder is (Some n) held) refl
        (subst (λ stage. StandsAt (left_core old old.room stage a.number opens) (to_active s (active_of s session) (λ u. ended s u session))) is
        (ended_stands old session base history sound legal stands old.room a opens here at))

    -- on these rows
    module _ (rows : List StoredRow) (answer_is : counted (is_full (transaction_of o)) rows (transaction_of o) op ≡ staged built s (lines.Good (asks session op))) (opens : List (Option OpenView)) where
      counted_full : most_operations ≤ length a.notes.notes → AreSameOpens old.opens opens → IsStep (with_opens old opens) base history (lines.Good (asks session op)) replies.LimitOps
      counted_full full same =
          let is : is_full (transaction_of o) ≡ true = sym (full_is g o a found_tx.is_open) ∙ le-leb most_operations (length a.notes.notes) full in
          stays old (with_opens old opens) (asks session op) replies.LimitOps base history (same_but_opens old opens same) stands replies.LimitOps
          (ap (λ b. counted b rows (transaction_of o) op) (sym is) ∙ answer_is) refl refl

      counted_done : (mark : ℕ) (reply : Reply) (b : OpenView) → length a.notes.notes < most_operations → HasDone old.store mark a op reply b → HasAt old.opens session (Some b) opens → rows_at mark old.store ≡ rows
          → IsOpen g (with_step (record { op = op; reply = reply; order = serial s.agenda; latest = latest s }) o) b → IsStep (with_opens old opens) base history (lines.Good (asks session op)) reply
      counted_done mark reply b room has at rows_are is_open =
          let not_full : is_full (transaction_of o) ≡ false = sym (full_is g o a found_tx.is_open) ∙ lt-leb most_operations (length a.notes.notes) room in
          let seen_now : reply ≡ see o.number rows (operations (transaction_of o)) op =
          has.seen (map (λ d. d.op) o.steps) found_tx.is_open.own ∙ (λ i. see (found_tx.is_open.number i) (rows_are i) (sym (ops_answered o.steps) i) op) in
          let step : Step = record { op = op; reply = reply; order = serial s.agenda; latest = latest s } in
          let now : StandsAt (with_opens old opens) (answered s op reply session) = record {
            counters = stands.counters;
            agenda = stands.agenda;
            holders = stands.holders ∙ sym (batches_stepped (is_of session) step s.active);
            store = stands.store;
            opens = opens_changed g old.opens s.active stands.opens session (with_step step) o b opens (λ u. refl) found_tx.found at is_open;
            records = records_answered s op reply session old.records stands.records;
            areas = stands.areas ∙ sym (areas_stepped (is_of session) step s.active);
          } in
          leads base history (lines.Good (asks session op)) reply reply (with_opens old opens) (seen_now ∙ ap (λ t. counted t rows (transaction_of o) op) (sym not_full) ∙ answer_is) refl
          (subst (StandsAt (with_opens old opens)) (sym (seen_changes s session op o.number rows (operations (transaction_of o)) reply seen_now)) now)

    -- it is done at a mark
    module _ (mark : ℕ) (reply : Reply) (b : OpenView) (has : HasDone old.store mark a op reply b) where
      abbrev step : Step
      step = record { op = op; reply = reply; order = serial s.agenda; latest = latest s }

      abbrev ops : List Op
      ops = map (λ d. d.op) o.steps

      -- its note, where the versions that are seen tell the last writes
      note_now : (last : Cell → Option LastWrite) → ((cell : Cell) → write_seen (visible mark (versions_at old.store cell)) ≡ last cell) → IsNoteBy (IsAskedLook everybody last) ops op has.note
      note_now last tells =
          note_so (IsSeenLook old.store mark) (IsAskedLook everybody last) (λ cell look. seen_is_asked old.store mark last cell look (tells cell)) ops op has.note (has.note_is ops found_tx.is_open.own)

      done_open : IsOfKind g o.number (o.steps ++ step ∷ []) b o.kind a.stage → IsOpen g (with_step step o) b
      done_open kind = record {
        number = has.number ∙ found_tx.is_open.number;
        own = has.own ∙ ap (put_write (write_of op)) found_tx.is_open.own ∙ sym (writes_of-push [] ops op) ∙ ap writes_of (sym (map-append (λ (d : Step). d.op) o.steps (step ∷ [])));
        kind = subst (IsOfKind g o.number (o.steps ++ step ∷ []) b o.kind) (sym has.stage) kind;
      }

      -- by a live batch
      live_done : (e : Declared) → a.stage ≡ stages.Live e mark → FoundLive g o.number o.steps a o.kind (declaration e) mark → IsOpen g (with_step step o) b
      live_done e is live =
          let more : IsLiveOpen g o.number e.writes live.snapshot (o.steps ++ step ∷ []) mark b = record {
            slot_at = live.live.slot_at;
            rows = live.live.rows;
            writes = live.live.writes;
            notes = subst (AreNotesBy (λ d. IsAskedLook everybody (last_write g.base live.snapshot)) (numbered (o.steps ++ step ∷ []))) (sym has.noted)
                (notes_push (λ d. IsAskedLook everybody (last_write g.base live.snapshot)) step has.note o.steps a.notes.notes live.live.notes (note_now (last_write g.base live.snapshot) live.live.writes));
          } in
          done_open (subst (λ stage. IsOfKind g o.number (o.steps ++ step ∷ []) b o.kind stage) (sym is)
          (subst (λ kind. IsOfKind g o.number (o.steps ++ step ∷ []) b kind (stages.Live e mark)) (sym live.kind_is) (refl, more)))

    -- a short on the latest rows
    module _ (up_to : AreUpTo old.commits old.store) (is : a.stage ≡ stages.Short) (unheld : IsHeldBy old.preserve (table_of op) None) (opens : List (Option OpenView)) where
      newest : rows_at old.commits old.store ≡ latest s
      newest = latest_at old.commits old.store up_to ∙ stands.store.rows

      tells : (cell : Cell) → write_seen (visible old.commits (versions_at old.store cell)) ≡ last_write g.base (serial s.agenda) cell
      tells cell = ap write_seen (visible_latest old.commits (versions_at old.store cell) (up_to_items old.commits old.store cell up_to)) ∙ stands.store.written cell

      short_done : (reply : Reply) (b : OpenView) → HasDone old.store old.commits a op reply b → IsOpen g (with_step (record { op = op; reply = reply; order = serial s.agenda; latest = latest s }) o) b
      short_done reply b has =
          let more : Step = record { op = op; reply = reply; order = serial s.agenda; latest = latest s } in
          let before : IsShortOpen g o.steps a = (short_is is).1 in
          let short_open : IsShortOpen g (o.steps ++ more ∷ []) b = record {
            notes = subst (AreNotesBy (λ d. IsAskedLook everybody (last_write g.base d.order)) (numbered (o.steps ++ more ∷ []))) (sym has.noted)
                (notes_push (λ d. IsAskedLook everybody (last_write g.base d.order)) more has.note o.steps a.notes.notes before.notes (note_now old.commits reply b has (last_write g.base (serial s.agenda)) tells));
            marks = subst (AreMarked old.store old.commits (o.steps ++ more ∷ [])) (sym (has.marked is)) (marks_push old.store old.commits o.steps a.notes.marks more newest before.marks);
            moments = all_push (λ d. d.latest ≡ run g.base d.order) o.steps more before.moments refl;
            rising = all_push (λ d. IsRising cell_of d.latest) o.steps more before.rising (latest_rising base history sound);
          } in
          done_open old.commits reply b has (subst (λ stage. IsOfKind g o.number (o.steps ++ more ∷ []) b o.kind stage) (sym is)
          (subst (λ kind. IsOfKind g o.number (o.steps ++ more ∷ []) b kind stages.Short) (sym (short_is is).0) short_open))

      pub operated_short_full : most_operations ≤ length a.notes.notes → AreSameOpens old.opens opens → IsStep (with_opens old opens) base history (lines.Good (asks session op)) replies.LimitOps
      operated_short_full full same = counted_full (latest s) (by_holder is None unheld) opens full same

      pub operated_short_done : (reply : Reply) → length a.notes.notes < most_operations → HasMore old.store old.commits old.opens session a op reply opens → IsStep (with_opens old opens) base history (lines.Good (asks session op)) reply
      operated_short_done reply room more =
          counted_done (latest s) (by_holder is None unheld) opens old.commits reply more.now room more.done more.kept_at newest (short_done reply more.now more.done)

    -- a live batch
    module _ (e : Declared) (mark : ℕ) (is : a.stage ≡ stages.Live e mark) where
      live : FoundLive g o.number o.steps a o.kind (declaration e) mark
      live = as_live_open g _ _ a o.kind a.stage e mark is found_tx.is_open.kind

      by_refusal : (r : Option Reply) → r ≡ refusal (declaration e) op → operation_of_batch s r live.snapshot (transaction_of o) op ≡ staged built s (lines.Good (asks session op))
      by_refusal r refused = ap (λ q. operation_of_batch s q live.snapshot (transaction_of o) op) refused ∙ by_kind (IsLive (declaration e) live.snapshot) live.kind_is

      pub operated_refused : (reply : Reply) → Some reply ≡ refusal (declaration e) op → IsStep old base history (lines.Good (asks session op)) reply
      operated_refused reply refused =
          stays old old (asks session op) reply base history (same_core old old refl) stands reply (by_refusal (Some reply) refused) refl
          (refusal_quiet s session op (declaration e) reply (sym refused))

      pub operated_live_full : None ≡ refusal (declaration e) op → (opens : List (Option OpenView)) → most_operations ≤ length a.notes.notes → AreSameOpens old.opens opens
          → IsStep (with_opens old opens) base history (lines.Good (asks session op)) replies.LimitOps
      operated_live_full allowed opens full same = counted_full (run s.base live.snapshot) (by_refusal None allowed) opens full same

      pub operated_live_done : None ≡ refusal (declaration e) op → (opens : List (Option OpenView)) (reply : Reply) → length a.notes.notes < most_operations → HasMore old.store mark old.opens session a op reply opens
          → IsStep (with_opens old opens) base history (lines.Good (asks session op)) reply
      operated_live_done allowed opens reply room more =
          counted_done (run s.base live.snapshot) (by_refusal None allowed) opens mark reply more.now room more.done more.kept_at live.live.rows (live_done mark reply more.now more.done e is live)

-- the open transaction whose stage is told
record IsStaged (o : Option OpenView) (stage : Stage) : Type 0 where
  open_tx : OpenView
  here : o ≡ Some open_tx
  is : open_tx.stage ≡ stage

staged_open : (o : Option OpenView) (stage : Stage) → option_map (λ a. a.stage) o ≡ Some stage → IsStaged o stage
staged_open None stage is = absurd (none_some is)
staged_open (Some a) stage is = record { open_tx = a; here = refl; is = some_same is }

-- by whether there are as many as there may be
by_count : (n : ℕ) (P : Type 0) → (most_operations ≤ n → P) → (n < most_operations → P) → P
by_count n P full room = by_test (nat_le most_operations n) refl where
  by_test : (b : Bool) → nat_le most_operations n ≡ b → P
  by_test true is = full (leb-true most_operations n is)
  by_test false is = room (leb-false most_operations n is)

-- what an operation of the open transactions leaves where it is full, and where it is done
abbrev pub IfFull : CoreView → ℕ → Reply → List (Option OpenView) → Type 0
IfFull v session reply opens = (a : OpenView) → opened v.opens session ≡ Some a → most_operations ≤ length a.notes.notes → (reply ≡ replies.LimitOps) × AreSameOpens v.opens opens

abbrev pub IfDone : CoreView → ℕ → ℕ → Op → Reply → List (Option OpenView) → Type 0
IfDone v mark session op reply opens = (a : OpenView) → opened v.opens session ≡ Some a → length a.notes.notes < most_operations → HasMore v.store mark v.opens session a op reply opens

-- a live batch that may not do it
pub refused : (core : CoreView) (session : ℕ) (op : Op) (e : Declared) (mark : ℕ) (reply : Reply) → option_map (λ a. a.stage) (opened core.opens session) ≡ Some (stages.Live e mark) → Some reply ≡ refusal (declaration e) op
    → Steps core (asks session op) reply core
refused core session op e mark reply is refusal_is base history sound legal stands =
    let f : IsStaged (opened core.opens session) (stages.Live e mark) = staged_open (opened core.opens session) (stages.Live e mark) is in
    operated_refused core session op base history sound legal stands f.open_tx f.here e mark f.is reply refusal_is

-- by the fields of a core
module _ (v w : CoreView) (same : v ≡ w) (session : ℕ) (op : Op) where
  from_fields : (reply : Reply) (new : CoreView) → Steps v (asks session op) reply new → Steps w (asks session op) reply new
  from_fields reply new steps = subst (λ u. Steps u (asks session op) reply new) same steps

  stage_in : (stage : Stage) → option_map (λ a. a.stage) (opened w.opens session) ≡ Some stage → IsStaged (opened v.opens session) stage
  stage_in stage is = staged_open (opened v.opens session) stage (subst (λ u. option_map (λ a. a.stage) (opened u.opens session) ≡ Some stage) (sym same) is)

  none_in : (o : Option OpenView) → option_map (λ (a : OpenView). a.stage) o ≡ None → o ≡ None
  none_in None is = refl
  none_in (Some a) is = absurd (none_some (sym is))

  pub none_from : option_map (λ a. a.stage) (opened v.opens session) ≡ None → Steps w (asks session op) replies.NoTx w
  none_from none = subst (λ u. Steps u (asks session op) replies.NoTx u) same (λ base history sound legal stands. operated_none v session op base history sound legal stands (none_in (opened v.opens session) none))

  pub pending_from : (e : Declared) → option_map (λ a. a.stage) (opened v.opens session) ≡ Some (stages.Pending e) → Steps w (asks session op) (replies.NotYet e.from) w
  pending_from e is =
      let f : IsStaged (opened v.opens session) (stages.Pending e) = staged_open (opened v.opens session) (stages.Pending e) is in
      subst (λ u. Steps u (asks session op) (replies.NotYet e.from) u) same (λ base history sound legal stands. operated_pending v session op base history sound legal stands f.open_tx f.here e f.is)

  pub held_from : option_map (λ a. a.stage) (opened w.opens session) ≡ Some stages.Short → (table n : ℕ) → table ≡ table_of op → IsHeldBy v.preserve table (Some n) → (opens : List (Option OpenView)) → HasAt v.opens session None opens
      → Steps w (asks session op) (replies.Preserved table n) (with_opens v opens)
  held_from is table n table_is held opens at =
      let f : IsStaged (opened v.opens session) stages.Short = stage_in stages.Short is in
      subst (λ t. Steps w (asks session op) (replies.Preserved t n) (with_opens v opens)) (sym table_is)
      (from_fields (replies.Preserved (table_of op) n) (with_opens v opens)
      (λ base history sound legal stands. operated_held v session op base history sound legal stands f.open_tx f.here f.is n (subst (λ t. IsHeldBy v.preserve t (Some n)) table_is held) opens at))

  module _ (opens : List (Option OpenView)) where
    short_from : AreUpTo v.commits v.store → option_map (λ a. a.stage) (opened w.opens session) ≡ Some stages.Short → (table : ℕ) → table ≡ table_of op → IsHeldBy v.preserve table None
        → (reply : Reply) → IfFull v session reply opens → IfDone v v.commits session op reply opens → Steps w (asks session op) reply (with_opens v opens)
    short_from up_to is table table_is unheld reply full done =
        let f : IsStaged (opened v.opens session) stages.Short = stage_in stages.Short is in
        let none : IsHeldBy v.preserve (table_of op) None = subst (λ t. IsHeldBy v.preserve t None) table_is unheld in
        from_fields reply (with_opens v opens) (λ base history sound legal stands.
        by_count (length f.open_tx.notes.notes) (IsStep (with_opens v opens) base history (lines.Good (asks session op)) reply)
        (λ most. let says = full f.open_tx f.here most in
        subst (IsStep (with_opens v opens) base history (lines.Good (asks session op))) (sym says.0)
        (operated_short_full v session op base history sound legal stands f.open_tx f.here up_to f.is none opens most says.1))
        (λ room. operated_short_done v session op base history sound legal stands f.open_tx f.here up_to f.is none opens reply room (done f.open_tx f.here room)))

    pub short_ok : AreUpTo v.commits v.store → option_map (λ a. a.stage) (opened w.opens session) ≡ Some stages.Short → (table : ℕ) → table ≡ table_of op → IsHeldBy v.preserve table None
        → {E : Type 0} → (r : Result Reply E) → IfOk r (λ reply. IfFull v session reply opens) → IfOk r (λ reply. IfDone v v.commits session op reply opens)
        → IfOk r (λ reply. Steps w (asks session op) reply (with_opens v opens))
    short_ok up_to is table table_is unheld r full done = if_both_ok _ _ _ (λ reply f d. short_from up_to is table table_is unheld reply f d) r full done

    live_from : (e : Declared) (mark : ℕ) → option_map (λ a. a.stage) (opened w.opens session) ≡ Some (stages.Live e mark) → None ≡ refusal (declaration e) op
        → (reply : Reply) → IfFull v session reply opens → IfDone v mark session op reply opens → Steps w (asks session op) reply (with_opens v opens)
    live_from e mark is allowed reply full done =
        let f : IsStaged (opened v.opens session) (stages.Live e mark) = stage_in (stages.Live e mark) is in
        from_fields reply (with_opens v opens) (λ base history sound legal stands.
        by_count (length f.open_tx.notes.notes) (IsStep (with_opens v opens) base history (lines.Good (asks session op)) reply)
        (λ most. let says = full f.open_tx f.here most in
        subst (IsStep (with_opens v opens) base history (lines.Good (asks session op))) (sym says.0)
        (operated_live_full v session op base history sound legal stands f.open_tx f.here e mark f.is allowed opens most says.1))
        (λ room. operated_live_done v session op base history sound legal stands f.open_tx f.here e mark f.is allowed opens reply room (done f.open_tx f.here room)))

    pub live_ok : (e : Declared) (mark : ℕ) → option_map (λ a. a.stage) (opened w.opens session) ≡ Some (stages.Live e mark) → None ≡ refusal (declaration e) op
        → {E : Type 0} → (r : Result Reply E) → IfOk r (λ reply. IfFull v session reply opens) → IfOk r (λ reply. IfDone v mark session op reply opens)
        → IfOk r (λ reply. Steps w (asks session op) reply (with_opens v opens))
    live_ok e mark is allowed r full done = if_both_ok _ _ _ (λ reply f d. live_from e mark is allowed reply f d) r full done

    -- the core stays one
    opens_within : IsWithin v → IsWithin (with_opens v opens)
    opens_within within = record { marks = within.marks; room = within.room; listed = within.listed; epoch_bound = within.epoch_bound; epoch_positive = within.epoch_positive; last_bound = within.last_bound; log = within.log }

    pub step_core : IsStanding v → IsWithin v → (reply : Reply) → Steps w (asks session op) reply (with_opens v opens) → IsCore (with_opens v opens)
    step_core standing within reply steps = core_step_from v w same (asks session op) reply (with_opens v opens) steps standing (opens_within within)

    same_core_from : IsStanding v → IsWithin v → AreSameOpens v.opens opens → IsCore (with_opens v opens)
    same_core_from standing within keeps = core_same_from v w same (with_opens v opens) (subst (λ u. IsSame u (with_opens v opens)) same (same_but_opens v opens keeps)) standing (opens_within within)

    pub result_core : IsStanding v → IsWithin v → {E : Type 0} → (r : Result Reply E) → IfOk r (λ reply. Steps w (asks session op) reply (with_opens v opens)) → OnErr r (AreSameOpens v.opens opens) → IsCore (with_opens v opens)
    result_core standing within r steps keeps = by_result _ _ _ (step_core standing within) (same_core_from standing within) r steps keeps
