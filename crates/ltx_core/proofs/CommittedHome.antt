-- A live batch that is committed where its slot stands.
use Rattle.std.proofs.Common.{◌≡◌, ℕ, ◌<◌, ◌≤◌, ◌+◌, Bool, true, false, ◌||◌, cond, ◌==◌, ◌≢◌, eq-eqb, List, [], ◌∷◌, ◌++◌, map, length, Option, Some, None, refl, sym, ap, ◌∙◌, subst, nat_lt, nat_le, arith, append-nil}
use Rattle.std.proofs.lemmas.Bool.Decides.{nat_tests}
use Rattle.std.proofs.lemmas.List.{map-append, length-append, length-map}
use Rattle.std.specs.List.{list_any, AllByRecursion}
use Rattle.ltx_model.specs.declared.commands.Line.TheVariants.{Good}
use Rattle.ltx_model.specs.declared.replies.Reply.{Reply}
use Rattle.ltx_model.specs.declared.replies.Reply.TheVariants as replies
use Rattle.ltx_model.specs.declared.writes.Write.{Write}
use Rattle.ltx_model.specs.Lists.{without_first}
use Rattle.ltx_model.specs.Keys.{Cell, IsRising}
use Rattle.ltx_model.specs.StoredRows.{cell_of}
use Rattle.ltx_model.specs.Operations.{Transaction, operations, writes_of}
use Rattle.ltx_model.specs.Rows.{rows_after_transaction, run, rows_after_writes}
use Rattle.ltx_model.specs.LastWrites.{last_write}
use Rattle.ltx_model.specs.Agenda.{Member, LiveSlot, Committed, has_number, commit_at_slot, CommitHome, Timed, commit_of, commits_of, serial, part_before, part_from}
use Rattle.ltx_model.specs.Marks.{IsMarkOfSlot}
use Rattle.ltx_model.specs.States.{Kind, Active, transaction_of, Base, IsSound, State, is_of}
use Rattle.ltx_model.specs.Frames.{BatchEvent, writes_in}
use Rattle.ltx_model.specs.Histories.{to_active, closed, moved, committed, commit_move, state}
use Rattle.ltx_model.specs.Holders.{Holder, is_entered, holder_of, removed}
use Rattle.ltx_lemmas.proofs.Lists.{true_false, given_append}
use Rattle.ltx_lemmas.proofs.Members.{home_numbers}
use Rattle.ltx_lemmas.proofs.Rising.{rising_run}
use Rattle.ltx_laws.specs.Structure.{Structure}
use Rattle.ltx_laws.proofs.Structures.{structure_of}
use Rattle.ltx_buffer.specs.Own.{write_at}
use Rattle.ltx_chain.specs.declared.chain.Version.{Version}
use Rattle.ltx_chain.specs.Versions.{visible, is_at_most}
use Rattle.ltx_chain.specs.Versions as versions
use Rattle.ltx_chain.proofs.Seen.{visible-append}
use Rattle.ltx_store.specs.Kept.{Kept, versions_at, latest_rows, HasSameVersions}
use Rattle.ltx_preserve.specs.Kept.{is_live_below}
use Rattle.ltx_open.specs.declared.stage.Declared.{Declared}
use Rattle.ltx_open.specs.declared.stage.Stage.TheVariants as stages
use Rattle.ltx_core.specs.Built.{built}
use Rattle.ltx_core.specs.Since.{is_batch_commit, has_batch_since, has_elder}
use Rattle.ltx_open.specs.Views.{OpenView, declaration}
use Rattle.ltx_core.specs.Views.{CoreView}
use Rattle.ltx_open.specs.Slots.{opened}
use Rattle.ltx_core.specs.Installed.{version_by, HasInstalled}
use Rattle.ltx_core.specs.Commits.{HasCommittedHome}
use Rattle.ltx_core.specs.Stands.{Ground, ground, IsSlotAt, IsSlotOf, HasMark, HasAgenda, HasStore, HasOpens, batches_of, write_seen, StandsAt}
use Rattle.ltx_core.specs.Logged.{IsLogged}
use Rattle.ltx_core.specs.Steps.{Steps, Logs}
use Rattle.ltx_core.proofs.Grounds.{IsLater, KeepsSlot, open_later}
use Rattle.ltx_core.proofs.OpensKept.{opens_on, opens_ended}
use Rattle.ltx_core.proofs.LogSteps.{logged_after, logged_event}
use Rattle.ltx_core.proofs.StandsStill.{leads}
use Rattle.ltx_core.proofs.Installed.{marks_installed, rows_installed}
use Rattle.ltx_core.proofs.HomeRuns.{AreUnwritten, rows_between, written_between}
use Rattle.ltx_core.proofs.Recording.{records_home, areas_left}
use Rattle.ltx_core.proofs.Batches.{without_batch, entered_removed}
use Rattle.ltx_core.proofs.SlotsLater.{slot_later, since_later}
use Rattle.ltx_core.proofs.HoldersLess.{entered_gone}
use Rattle.ltx_core.proofs.HomeAnswers.{commits_at, home_answer}
use Rattle.ltx_core.proofs.LiveFound.{IsLiveAt, live_at, elder_is, home_is, parts_are, home_apart}

-- a batch committed after a slot, with one more move that commits one
or_true : (b : Bool) → (b || (true || false)) ≡ true
or_true true = refl
or_true false = refl

batch_now : (moves : List Timed) (n mark : ℕ) (m : Timed) → IsMarkOfSlot moves n mark → is_batch_commit m.move ≡ true → has_batch_since (moves ++ m ∷ []) n ≡ true
batch_now moves n mark m slot commits =
    since_later moves (m ∷ []) n mark slot ∙ ap (λ b. has_batch_since moves n || (b || false)) commits ∙ or_true (has_batch_since moves n)

-- the slot of a live batch, after another one committed
pub keeps_slot : (g new : Ground) (m : Timed) → is_batch_commit m.move ≡ true → new.moves ≡ g.moves ++ m ∷ [] → new.commits ≡ g.commits + 1 → new.batch ≡ g.commits + 1 → (n tables mark : ℕ)
    → IsSlotAt g n tables mark → IsSlotAt new n tables mark
keeps_slot g new m commits moves more batch n tables mark at =
    let within : mark ≤ g.commits = at.within in
    let since : has_batch_since new.moves n ≡ true = ap (λ l. has_batch_since l n) moves ∙ batch_now g.moves n mark m at.slot commits in
    let below : nat_lt mark new.batch ≡ true = grind (arith, nat_tests) in
    record {
      within = omega arith;
      slot = subst (λ l. IsMarkOfSlot l n mark) (sym moves) (slot_later g.moves (m ∷ []) n mark at.slot);
      since = since ∙ sym below;
      unwritten = λ none. absurd (true_false (sym since ∙ none));
    }

-- what is seen at an earlier mark stays
pub seen_before : (old new : List Kept) (writer mark m : ℕ) (writes : List Write) → m < mark → HasInstalled old new writer mark writes → (cell : Cell) → visible m (versions_at new cell) ≡ visible m (versions_at old cell)
seen_before old new writer mark m writes less done cell = ap (visible m) (done.versions cell) ∙ by_write (write_at writes cell) where
  by_write : (o : Option Write) → visible m (versions_at old cell ++ version_by writer mark o) ≡ visible m (versions_at old cell)
  by_write None = ap (visible m) (append-nil (versions_at old cell))
  by_write (Some w) =
      let made : Version = record { writer = writer; mark = mark; put = w.put } in
      let unseen : nat_le mark m ≡ false = grind (arith, nat_tests) in
      visible-append m (versions_at old cell) made ∙ ap (λ b. cond b (Some made) (visible m (versions_at old cell))) unseen

-- the slots that stand are those of the batches that are entered
slots_home : (t : Transaction) (holders : List Holder) (ms : List Member) → is_entered (removed t.number holders) t.number ≡ false → AllByRecursion (IsSlotOf holders) ms
    → AllByRecursion (IsSlotOf (removed t.number holders)) (map (commit_at_slot t) ms)
slots_home t holders [] gone all = tt
slots_home t holders (m ∷ ms) gone all = (by_test (has_number t.number m) refl, slots_home t holders ms gone all.1) where
  other : (k : ℕ) → (k == t.number) ≡ false → k ≢ t.number
  other k apart same = true_false (sym (eq-eqb k t.number same) ∙ apart)

  by_member : (x : Member) → has_number t.number x ≡ false → IsSlotOf holders x → IsSlotOf (removed t.number holders) x
  by_member (LiveSlot n) apart slot = entered_removed t.number n holders (other n apart) ∙ slot
  by_member (Committed u) apart slot = entered_removed t.number u.number holders (other u.number apart) ∙ slot

  by_test : (b : Bool) → has_number t.number m ≡ b → IsSlotOf (removed t.number holders) (cond b (Committed t) m)
  by_test true here = gone
  by_test false apart = by_member m apart all.0

-- room that was made before changes nothing of what is installed
pub installed_in_room : (old room new : List Kept) (writer mark : ℕ) (writes : List Write) → HasSameVersions old room → HasInstalled room new writer mark writes → HasInstalled old new writer mark writes
installed_in_room old room new writer mark writes same done = record {
  rows = done.rows ∙ ap (λ r. rows_after_writes writer r writes) same.latest;
  before = λ m less. done.before m less ∙ same.rows m;
  versions = λ cell. done.versions cell ∙ ap (λ l. l ++ version_by writer mark (write_at writes cell)) (same.versions cell);
}

module _ (old : CoreView) (session : ℕ) (a : OpenView) (e : Declared) (mark : ℕ) (base : Base) (s : State) (sound : IsSound base) (structure : Structure base s) (stands : StandsAt old s)
    (x : IsLiveAt old session a e mark s) (alone : has_batch_since s.moves x.open_tx.number ≡ false) (new : CoreView) (done : HasCommittedHome old session a new) where
  abbrev o : Active
  o = x.open_tx

  abbrev t : Transaction
  t = transaction_of x.open_tx

  abbrev move : Timed
  move = record { epoch = s.epoch; move = CommitHome t }

  abbrev after : State
  after = moved (closed s session) s.epoch (CommitHome t)

  abbrev front : List Transaction
  front = serial (part_before x.open_tx.number s.agenda)

  abbrev back : List Transaction
  back = serial (part_from x.open_tx.number s.agenda)

  rising : IsRising cell_of s.base
  rising = subst (IsRising cell_of) (sym structure.rows) sound.rising

  serial_is : serial (map (commit_at_slot t) s.agenda) ≡ front ++ t ∷ back
  serial_is = home_is old session a e mark base s structure stands x

  parts : front ++ back ≡ serial s.agenda
  parts = parts_are old session a e mark base s structure stands x

  apart : AreUnwritten t back
  apart = home_apart old session a e mark base s structure stands x alone

  installed : HasInstalled old.store new.store t.number (old.commits + 1) (writes_of (operations t))
  installed = subst (λ ws. HasInstalled old.store new.store t.number (old.commits + 1) ws) x.own (subst (λ n. HasInstalled old.store new.store n (old.commits + 1) a.own.writes) x.number done.installed)

  commits_are : commits_of (s.moves ++ move ∷ []) ≡ commits_of s.moves ++ t ∷ []
  commits_are = given_append (λ (m : Timed). commit_of m.move) s.moves (move ∷ [])

  numbers_are : map (λ u. u.number) (commits_of (s.moves ++ move ∷ [])) ≡ map (λ u. u.number) (commits_of s.moves) ++ t.number ∷ []
  numbers_are = ap (map (λ u. u.number)) commits_are ∙ map-append (λ (u : Transaction). u.number) (commits_of s.moves) (t ∷ [])

  removed_now : removed t.number old.preserve ≡ batches_of (without_first (is_of session) s.active)
  removed_now =
      ap (removed t.number) stands.holders
      ∙ sym (without_batch session s.active o (record { number = o.number; tables = e.writes; live = true }) structure.opens.rising x.found (ap (λ k. holder_of k o.number) x.kind))

  gone : is_entered (removed t.number old.preserve) t.number ≡ false
  gone = ap (λ hs. is_entered hs t.number) removed_now ∙ entered_gone s.active session o structure.opens.rising x.found

  preserve_is : new.preserve ≡ removed t.number old.preserve
  preserve_is = done.preserve ∙ ap (λ n. removed n old.preserve) x.number

  abbrev versions_tell : List Transaction → Cell → Type 0
  versions_tell ts cell = write_seen (versions.latest (versions_at new.store cell)) ≡ last_write s.base ts cell

  before : (cell : Cell) → write_seen (versions.latest (versions_at old.store cell)) ≡ last_write s.base (front ++ back) cell
  before cell = stands.store.written cell ∙ ap (λ ts. last_write s.base ts cell) (sym parts)

  old_rising : IsRising cell_of (latest_rows old.store)
  old_rising = subst (IsRising cell_of) (sym stands.store.rows) (rising_run s.base (serial s.agenda) rising)

  mark_is : old.commits + 1 ≡ length (map (λ u. u.number) (commits_of s.moves)) + 1
  mark_is = ap (λ n. n + 1) (stands.agenda.count_is ∙ sym (length-map (commits_of s.moves) (λ (u : Transaction). u.number)))

  store_now : HasStore new.store s.base (run s.base (serial (map (commit_at_slot t) s.agenda))) (serial (map (commit_at_slot t) s.agenda)) (commits_of (s.moves ++ move ∷ []))
  store_now = record {
    rows = rows_installed old.store new.store t.number (old.commits + 1) (writes_of (operations t)) (operations t) refl old_rising installed
        ∙ ap (λ rows. rows_after_transaction rows t) (stands.store.rows ∙ ap (run s.base) (sym parts))
        ∙ rows_between s.base front t back apart rising
        ∙ ap (run s.base) (sym serial_is);
    written = subst (λ ts. (cell : Cell) → versions_tell ts cell) (sym serial_is) (written_between s.base front t back apart old.store new.store (old.commits + 1) installed before);
    marks = subst (λ ns. (cell : Cell) → AllByRecursion (HasMark s.base ns cell) (versions_at new.store cell)) (sym numbers_are)
        (marks_installed s.base old.store new.store (map (λ u. u.number) (commits_of s.moves)) t.number (old.commits + 1) (writes_of (operations t)) mark_is installed stands.store.marks);
  }

  agenda_now : HasAgenda new.list new.commits new.batch new.preserve (map (commit_at_slot t) s.agenda) (s.moves ++ move ∷ [])
  agenda_now =
      let more : new.commits ≡ old.commits + 1 = done.commits in
      let batch : new.batch ≡ old.commits + 1 = done.batch in
      record {
        list_is = done.list ∙ stands.agenda.list_is ∙ sym (home_numbers t s.agenda);
        count_is = done.commits ∙ ap (λ n. n + 1) stands.agenda.count_is ∙ sym (ap length commits_are ∙ length-append (commits_of s.moves) (t ∷ []));
        batch_within = omega arith;
        slots = subst (λ hs. AllByRecursion (IsSlotOf hs) (map (commit_at_slot t) s.agenda)) (sym preserve_is) (slots_home t old.preserve s.agenda gone stands.agenda.slots);
      }

  later : IsLater (ground old s) (ground new after)
  later =
      let more : new.commits ≡ old.commits + 1 = done.commits in
      record {
        base = refl;
        more = omega arith;
        rows = λ m within. installed.before m (omega arith);
        seen = λ m within cell. seen_before old.store new.store t.number (old.commits + 1) m (writes_of (operations t)) (omega arith) installed cell;
      }

  keeps : (n : ℕ) (kind : Kind) → KeepsSlot (ground old s) (ground new after) n kind
  keeps n kind d snapshot k is at = keeps_slot (ground old s) (ground new after) move refl refl done.commits done.batch n d.writes k at

  opens_now : HasOpens (ground new after) new.opens (without_first (is_of session) s.active)
  opens_now =
      opens_ended (ground new after) old.opens s.active
      (opens_on (ground old s) old.opens s.active stands.opens (ground new after) (λ u b there is. open_later (ground old s) (ground new after) later u b (keeps u.number u.kind) is))
      session o new.opens x.found done.opens

  pub home_stands : StandsAt new (moved (closed s session) s.epoch (CommitHome (transaction_of x.open_tx)))
  home_stands = record {
    counters = done.counters ∙ stands.counters;
    agenda = agenda_now;
    holders = preserve_is ∙ removed_now;
    store = store_now;
    opens = opens_now;
    records = records_home old session a e mark base s structure stands x new.records done.records;
    areas = done.areas ∙ areas_left old session a e mark base s structure stands x;
  }

-- the commit of a live batch that overtakes nobody
pub commit_home : (old : CoreView) (session : ℕ) (a : OpenView) (e : Declared) (mark : ℕ) (reply : Reply) (new : CoreView) → opened old.opens session ≡ Some a → a.stage ≡ stages.Live e mark
    → nat_lt mark old.batch ≡ false → list_any (is_live_below a.number) old.preserve ≡ false → reply ≡ replies.Committed old.counters.epoch → HasCommittedHome old session a new
    → Steps old (commits_at session) reply new
commit_home old session a e mark reply new here stage unpassed least says done base history sound legal stands =
    let s : State = state base history in
    let structure : Structure base s = structure_of built base history legal in
    let x : IsLiveAt old session a e mark s = live_at old session a e mark s here stage stands in
    let alone : has_batch_since s.moves x.open_tx.number ≡ false = x.slot.since ∙ unpassed in
    let no_elder : has_elder s x.open_tx.number ≡ false = elder_is old session a e mark base s structure stands x ∙ least in
    leads base history (Good (commits_at session)) (replies.Committed s.epoch) reply new
    (home_answer s session x.open_tx (declaration e) x.snapshot x.found x.kind alone no_elder)
    (says ∙ ap (λ c. replies.Committed c.epoch) stands.counters)
    (subst (λ f. StandsAt new (to_active s f (λ u. committed s u session))) (sym x.found)
    (subst (λ k. StandsAt new (moved (closed s session) s.epoch (commit_move k (transaction_of x.open_tx)))) (sym x.kind)
    (home_stands old session a e mark base s sound structure stands x alone new done)))

-- its event is kept for the log
pub home_logs : (old : CoreView) (session : ℕ) (a : OpenView) (e : Declared) (mark : ℕ) (reply : Reply) (new : CoreView) → opened old.opens session ≡ Some a → a.stage ≡ stages.Live e mark
    → reply ≡ replies.Committed old.counters.epoch → HasCommittedHome old session a new → Logs old (commits_at session) reply new
home_logs old session a e mark reply new here stage says done base history sound legal stands =
    let s : State = state base history in
    let x : IsLiveAt old session a e mark s = live_at old session a e mark s here stage stands.at in
    let t : Transaction = transaction_of x.open_tx in
    let event : BatchEvent a.number old.counters.epoch None a.own.writes ≡ BatchEvent t.number s.epoch None (writes_in t) = λ i. BatchEvent (x.number i) (stands.at.counters i).epoch None (x.own i) in
    logged_after new.log base history (Good (commits_at session)) (replies.Committed s.epoch) reply (says ∙ ap (λ c. replies.Committed c.epoch) stands.at.counters)
    (subst (λ f. IsLogged new.log (to_active s f (λ u. committed s u session))) (sym x.found)
    (subst (λ k. IsLogged new.log (moved (closed s session) s.epoch (commit_move k t))) (sym x.kind)
    (logged_event old.log new.log s session (CommitHome t) (BatchEvent a.number old.counters.epoch None a.own.writes) (BatchEvent t.number s.epoch None (writes_in t)) done.log event refl stands.logged)))
