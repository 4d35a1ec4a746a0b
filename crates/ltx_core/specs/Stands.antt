-- A core stands for a base and a history.
use Rattle.std.specs.Prelude.{◌≡◌, ◌⊎◌, ℕ, ◌<◌, ◌≤◌, ◌-◌, ◌==◌, nat_lt, Bool, true, false, List, [], ◌∷◌, map, filter_map, length, slice_get, Option, Some, None, is_none, Contains}
use Rattle.std.specs.List.{find, AllByRecursion}
use Rattle.ltx_model.specs.declared.replies.Entry.{Entry}
use Rattle.ltx_model.specs.declared.rows.StoredRow.{StoredRow}
use Rattle.ltx_model.specs.Lists.{numbered, IsPairwise}
use Rattle.ltx_model.specs.Keys.{Cell, IsRising}
use Rattle.ltx_model.specs.StoredRows.{cell_of, row_at}
use Rattle.ltx_model.specs.Tables.{has_table}
use Rattle.ltx_model.specs.Operations.{Transaction, operations, writes_key, writes_of}
use Rattle.ltx_model.specs.Rows.{run}
use Rattle.ltx_model.specs.LastWrites.{LastWrite, last_write}
use Rattle.ltx_model.specs.Agenda.{Member, LiveSlot, Committed, number_of, Timed, serial, commits_of, part_from}
use Rattle.ltx_model.specs.Marks.{IsMarkOfSlot}
use Rattle.ltx_model.specs.Records.{AreRecordsOf}
use Rattle.ltx_model.specs.Notes.{AreNotesBy}
use Rattle.ltx_model.specs.Decisions.{IsAskedLook}
use Rattle.ltx_model.specs.States.{Kind, IsShort, IsPending, IsLive, Step, Active, Base, IsSound, State, is_of, latest}
use Rattle.ltx_model.specs.Histories.{state}
use Rattle.ltx_model.specs.Holders.{Holder, is_entered, holder_of}
use Rattle.ltx_model.specs.Answers.{IsLegalWith}
use Rattle.ltx_chain.specs.declared.chain.Version.{Version}
use Rattle.ltx_chain.specs.Versions as versions
use Rattle.ltx_forward.specs.declared.decide.Live.{Live}
use Rattle.ltx_store.specs.Kept.{Kept, versions_at, rows_at, latest_rows}
use Rattle.ltx_open.specs.declared.stage.Stage.{Stage}
use Rattle.ltx_open.specs.declared.stage.Stage.TheVariants as stages
use Rattle.ltx_core.specs.Built.{built}
use Rattle.ltx_core.specs.Since.{has_batch_since}
use Rattle.ltx_open.specs.Views.{OpenView, declaration}
use Rattle.ltx_core.specs.Views.{Counters, CoreView}
use Rattle.ltx_core.specs.Logged.{IsLogged}
use Rattle.ltx_open.specs.Slots.{opened}

-- the last write of a key, by the version that is seen
abbrev pub write_seen : Option Version → Option LastWrite
write_seen None = None
write_seen (Some v) = Some (record { writer = v.writer; gone = is_none v.put })

-- no last writer may be missing
abbrev pub everybody : ℕ → Bool
everybody n = true

-- What open transactions rest on: the store, the number of commits, that of the last batch's commit, and the state's base, agenda and moves.
pub record Ground : Type 0 where
  pub store : List Kept
  pub commits : ℕ
  pub batch : ℕ
  pub base : List StoredRow
  pub agenda : List Member
  pub moves : List Timed

-- The number of commits at a step's moment: marks do not fall and are at most the number of commits now, and the rows at the mark are
-- those on which the step was answered.
pub record IsMarked (store : List Kept) (low commits : ℕ) (step : Step) (mark : ℕ) : Type 0 where
  pub rises : low ≤ mark
  pub within : mark ≤ commits
  pub rows : rows_at mark store ≡ step.latest

abbrev pub AreMarkedFrom : List Kept → ℕ → ℕ → List Step → List ℕ → Type 0
AreMarkedFrom store commits low [] [] = Unit {0}
AreMarkedFrom store commits low (b ∷ bs) (m ∷ ms) = IsMarked store low commits b m × AreMarkedFrom store commits m bs ms
AreMarkedFrom store commits low bs ms = ⊥

-- the marks of the notes of these steps
abbrev pub AreMarked : List Kept → ℕ → List Step → List ℕ → Type 0
AreMarked store commits steps marks = AreMarkedFrom store commits 0 steps marks

-- A short: each look tells the last write of its key in the order of its step's moment, deletions too, and a key without a look was
-- never written. The notes have the marks of their moments.
pub record IsShortOpen (g : Ground) (steps : List Step) (a : OpenView) : Type 0 where
  pub notes : AreNotesBy (λ step. IsAskedLook everybody (last_write g.base step.order)) (numbered steps) a.notes.notes
  pub marks : AreMarked g.store g.commits steps a.notes.marks
  pub moments : AllByRecursion (λ b. b.latest ≡ run g.base b.order) steps
  pub rising : AllByRecursion (λ b. IsRising cell_of b.latest) steps

-- A pending batch has done nothing.
pub record IsPendingOpen (steps : List Step) (a : OpenView) : Type 0 where
  pub idle : steps ≡ []
  pub notes : a.notes.notes ≡ []

-- the transaction writes no table of a set
abbrev pub WritesNone : ℕ → Transaction → Type 0
WritesNone tables t = (cell : Cell) → writes_key (operations t) cell ≡ true → has_table tables cell.table ≡ false

-- The slot of the live batch n: its mark is the number of commits before it. A batch committed since exactly where its commit has a
-- greater number; and as long as none has, nobody who stands behind the slot wrote what this batch declared.
pub record IsSlotAt (g : Ground) (n tables mark : ℕ) : Type 0 where
  pub within : mark ≤ g.commits
  pub slot : IsMarkOfSlot g.moves n mark
  pub since : has_batch_since g.moves n ≡ nat_lt mark g.batch
  pub unwritten : has_batch_since g.moves n ≡ false → (t : Transaction) → Contains (serial (part_from n g.agenda)) t → WritesNone tables t

-- A live batch: at its mark the store has the rows of its snapshot, and of each key the last write in the snapshot. Each look tells that
-- one, deletions too, and a key without a look was never written there.
pub record IsLiveOpen (g : Ground) (n tables : ℕ) (snapshot : List Transaction) (steps : List Step) (mark : ℕ) (a : OpenView) : Type 0 where
  pub slot_at : IsSlotAt g n tables mark
  pub rows : rows_at mark g.store ≡ run g.base snapshot
  pub writes : (cell : Cell) → write_seen (versions.visible mark (versions_at g.store cell)) ≡ last_write g.base snapshot cell
  pub notes : AreNotesBy (λ step. IsAskedLook everybody (last_write g.base snapshot)) (numbered steps) a.notes.notes

abbrev pub IsOfKind : Ground → ℕ → List Step → OpenView → Kind → Stage → Type 0
IsOfKind g n steps a IsShort stages.Short = IsShortOpen g steps a
IsOfKind g n steps a (IsPending d) (stages.Pending e) = (declaration e ≡ d) × IsPendingOpen steps a
IsOfKind g n steps a (IsLive d snapshot) (stages.Live e mark) = (declaration e ≡ d) × IsLiveOpen g n d.writes snapshot steps mark a
IsOfKind g n steps a kind stage = ⊥

-- What is kept of an open transaction: its notes are those of its steps, by what it is, and its own writes the last ones of each key.
pub record IsOpen (g : Ground) (o : Active) (a : OpenView) : Type 0 where
  pub number : a.number ≡ o.number
  pub own : a.own.writes ≡ writes_of (map (λ b. b.op) o.steps)
  pub kind : IsOfKind g o.number o.steps a o.kind a.stage

-- The version is the base's row of its key.
pub record IsOfBase (rows : List StoredRow) (cell : Cell) (v : Version) : Type 0 where
  pub mark : v.mark ≡ 0
  pub value : List ℕ
  pub puts : v.put ≡ Some value
  pub row : row_at rows cell ≡ Some (record { table = cell.table; key = cell.key; value = value; writer = v.writer })

-- the mark of a version is the number of commits up to and with its writer's, and 0 exactly where it is a row of the base
abbrev pub HasMark : List StoredRow → List ℕ → Cell → Version → Type 0
HasMark rows commits cell v = IsOfBase rows cell v ⊎ ((0 < v.mark) × (slice_get commits (v.mark - 1) ≡ Some v.writer))

-- The open transaction is kept at its session.
pub record IsFound (g : Ground) (opens : List (Option OpenView)) (o : Active) : Type 0 where
  pub open_tx : OpenView
  pub here : opened opens o.session ≡ Some open_tx
  pub is_open : IsOpen g o open_tx

abbrev pub AreApart : Active → Active → Type 0
AreApart o u = (u.session == o.session) ≡ false

-- The counters are those of the state.
abbrev pub counters_of : State → Counters
counters_of s = record { epoch = s.epoch; last = s.last }

-- a member is a slot exactly where it is entered as a batch that has begun
abbrev pub IsSlotOf : List Holder → Member → Type 0
IsSlotOf holders (LiveSlot n) = is_entered holders n ≡ true
IsSlotOf holders (Committed t) = is_entered holders t.number ≡ false

-- The list has the numbers of the agenda's members, in order, the number of commits counts the moves that commit, and the slots are
-- those of batches that have begun.
pub record HasAgenda (list : List ℕ) (count batch : ℕ) (holders : List Holder) (agenda : List Member) (moves : List Timed) : Type 0 where
  pub list_is : list ≡ map number_of agenda
  pub count_is : count ≡ length (commits_of moves)
  pub batch_within : batch ≤ count
  pub slots : AllByRecursion (IsSlotOf holders) agenda

-- The rows of the store at the newest mark are the latest rows, all of them and no others; the newest version of each key is its last
-- write in the order, deletions included; and marks are numbers of commits, in time.
pub record HasStore (store : List Kept) (base now : List StoredRow) (serially commits : List Transaction) : Type 0 where
  pub rows : latest_rows store ≡ now
  pub written : (cell : Cell) → write_seen (versions.latest (versions_at store cell)) ≡ last_write base serially cell
  pub marks : (cell : Cell) → AllByRecursion (HasMark base (map (λ t. t.number) commits) cell) (versions_at store cell)

-- The open transactions are kept, each at its session, and no others; no two are of one session.
pub record HasOpens (g : Ground) (opens : List (Option OpenView)) (active : List Active) : Type 0 where
  pub found : AllByRecursion (IsFound g opens) active
  pub others : (session : ℕ) → find (is_of session) active ≡ None → opened opens session ≡ None
  pub apart : IsPairwise AreApart active

-- the batches among open transactions, as they are entered
abbrev pub batches_of : List Active → List Holder
batches_of active = filter_map (λ o. holder_of o.kind o.number) active

-- a batch with the tables that it declared for writing, and its area
abbrev pub area_of : Kind → ℕ → Option Live
area_of IsShort n = None
area_of (IsPending d) n = Some (record { tx = n; writes = d.writes; reads = d.reads })
area_of (IsLive d snapshot) n = Some (record { tx = n; writes = d.writes; reads = d.reads })

-- the batches among open transactions, with their areas
abbrev pub areas_of : List Active → List Live
areas_of active = filter_map (λ o. area_of o.kind o.number) active

-- what open transactions rest on, in a core at a state
abbrev pub ground : CoreView → State → Ground
ground core s = record { store = core.store; commits = core.commits; batch = core.batch; base = s.base; agenda = s.agenda; moves = s.moves }

-- What the core keeps is what the state has, but for what it keeps for the log.
pub record StandsAt (core : CoreView) (s : State) : Type 0 where
  pub counters : core.counters ≡ counters_of s
  pub agenda : HasAgenda core.list core.commits core.batch core.preserve s.agenda s.moves
  pub holders : core.preserve ≡ batches_of s.active
  pub store : HasStore core.store s.base (latest s) (serial s.agenda) (commits_of s.moves)
  pub opens : HasOpens (ground core s) core.opens s.active
  pub records : AreRecordsOf s core.records
  pub areas : core.areas ≡ areas_of s.active

-- The core is where the history leads from the base, and so is what it keeps for the log.
pub record StandsFor (core : CoreView) (base : Base) (history : List Entry) : Type 0 where
  pub at : StandsAt core (state base history)
  pub logged : IsLogged core.log (state base history)

-- The core stands at the state of some sound base and some legal history from it.
pub record IsStanding (core : CoreView) : Type 0 where
  pub base : Base
  pub history : List Entry
  pub sound : IsSound base
  pub legal : IsLegalWith built base history
  pub stands : StandsAt core (state base history)
