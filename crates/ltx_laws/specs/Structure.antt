-- The structure of a state: what its numbers, open transactions, moves and agenda keep in every legal history.
use Rattle.std.specs.Prelude.{◌≡◌, ◌≢◌, ℕ, ◌<◌, ◌≤◌, Bool, true, false, not, ◌==◌, List, [], filter, None, IsPermutation}
use Rattle.std.specs.List.{list_any, AllByRecursion}
use Rattle.ltx_model.specs.Operations.{Transaction}
use Rattle.ltx_model.specs.Agenda.{Member, LiveSlot, Committed, number_of, is_member, Move, Slot, CommitShort, CommitHome, CommitBefore, Leave, Timed, agenda_from, serial, has_slot, commits_after, commits_of, moves_until, part_before}
use Rattle.ltx_model.specs.States.{Declaration, Kind, IsShort, IsPending, IsLive, Step, Active, Base, State}
use Rattle.ltx_model.specs.Answers.{refusal}
use Rattle.ltx_model.specs.Lists.{IsPairwise}

-- the move commits the batch n before a target
abbrev pub forwards : ℕ → Move → Bool
forwards n (Slot m) = false
forwards n (CommitShort t) = false
forwards n (CommitHome t) = false
forwards n (CommitBefore t target) = t.number == n
forwards n (Leave m) = false

-- a batch of this number was committed before a target in these moves
abbrev pub is_forwarded : List Timed → ℕ → Bool
is_forwarded moves n = list_any (λ m. forwards n m.move) moves

-- of a live batch, what is said of it
abbrev pub if_live : Kind → Bool → Bool
if_live IsShort b = false
if_live (IsPending d) b = false
if_live (IsLive d snapshot) b = b

-- an open transaction is a live batch with this number
abbrev pub is_live_as : ℕ → Active → Bool
is_live_as n o = if_live o.kind (o.number == n)

-- The open transactions stand in the order of their numbers, above the base's last number and up to the state's, and no session has two.
pub record AreOpen (base : Base) (last : ℕ) (active : List Active) : Type 0 where
  pub above : AllByRecursion (λ o. base.last < o.number) active
  pub bound : AllByRecursion (λ o. o.number ≤ last) active
  pub rising : IsPairwise (λ a b. a.number < b.number) active
  pub sessions : IsPairwise (λ a b. a.session ≢ b.session) active

-- The numbers of slots are those of transactions that have begun, and only a batch that became live is forwarded.
pub record AreSlots (last : ℕ) (moves : List Timed) : Type 0 where
  pub bound : (n : ℕ) → has_slot moves n ≡ true → n ≤ last
  pub forwarded : (n : ℕ) → is_forwarded moves n ≡ true → has_slot moves n ≡ true

-- The slot of a live batch: the batch is open, became live, and was not forwarded.
pub record IsSlotOfLive (active : List Active) (moves : List Timed) (n : ℕ) : Type 0 where
  pub live : list_any (is_live_as n) active ≡ true
  pub slotted : has_slot moves n ≡ true
  pub unforwarded : is_forwarded moves n ≡ false

-- A member is the slot of a live batch, or a committed transaction, which no open transaction shares its number with.
abbrev pub IsKnown : List Active → List Timed → Member → Type 0
IsKnown active moves (LiveSlot n) = IsSlotOfLive active moves n
IsKnown active moves (Committed t) = AllByRecursion (λ o. o.number ≢ t.number) active

-- The members of the agenda have numbers of transactions that have begun.
pub record AreMembers (base : Base) (last : ℕ) (active : List Active) (moves : List Timed) (agenda : List Member) : Type 0 where
  pub above : AllByRecursion (λ m. base.last < number_of m) agenda
  pub bound : AllByRecursion (λ m. number_of m ≤ last) agenda
  pub known : AllByRecursion (IsKnown active moves) agenda

-- Of the numbers of two members of the agenda, the first one before the second: they are different, and of two batches that stand
-- against their numbers the one with the greater number, which stands first, was forwarded.
pub record IsBefore (moves : List Timed) (a b : ℕ) : Type 0 where
  pub apart : a ≢ b
  pub elder : has_slot moves a ≡ true → has_slot moves b ≡ true → b < a → is_forwarded moves a ≡ true

-- A short that is open: its number is no member's, and never was a slot's.
pub record IsOpenShort (agenda : List Member) (moves : List Timed) (n : ℕ) : Type 0 where
  pub fresh : is_member agenda n ≡ false
  pub unslotted : has_slot moves n ≡ false

-- A pending batch: its number is no member's, it has done nothing, and each batch that ever became live has a smaller number.
pub record IsPendingBatch (agenda : List Member) (moves : List Timed) (n : ℕ) (steps : List Step) : Type 0 where
  pub fresh : is_member agenda n ≡ false
  pub later : (k : ℕ) → has_slot moves k ≡ true → k < n
  pub idle : steps ≡ []

-- A live batch. It has a slot in the agenda. Its snapshot is the serial order that the moves before its slot give; and it is the
-- committed members that stand before it now and did not commit after its slot, in the present order. Its operations were inside
-- what it declared.
pub record IsLiveBatch (agenda : List Member) (moves : List Timed) (n : ℕ) (d : Declaration) (snapshot : List Transaction) (steps : List Step) : Type 0 where
  pub member : is_member agenda n ≡ true
  pub slotted : has_slot moves n ≡ true
  pub taken : snapshot ≡ serial (agenda_from [] (moves_until n moves))
  pub now : snapshot ≡ filter (λ t. not (commits_after moves n t.number)) (serial (part_before n agenda))
  pub inside : AllByRecursion (λ step. refusal d step.op ≡ None) steps

abbrev pub StandsAs : List Member → List Timed → Kind → ℕ → List Step → Type 0
StandsAs agenda moves IsShort n steps = IsOpenShort agenda moves n
StandsAs agenda moves (IsPending d) n steps = IsPendingBatch agenda moves n steps
StandsAs agenda moves (IsLive d snapshot) n steps = IsLiveBatch agenda moves n d snapshot steps

-- an open transaction stands by its kind
abbrev pub Stands : List Member → List Timed → Active → Type 0
Stands agenda moves o = StandsAs agenda moves o.kind o.number o.steps

-- The structure of a state that a legal history leads to.
pub record Structure (base : Base) (s : State) : Type 0 where
  pub rows : s.base ≡ base.rows
  pub last : base.last ≤ s.last
  pub opens : AreOpen base s.last s.active
  pub slots : AreSlots s.last s.moves
  -- the agenda is what the moves give
  pub moves : s.agenda ≡ agenda_from [] s.moves
  pub members : AreMembers base s.last s.active s.moves s.agenda
  pub order : IsPairwise (λ x y. IsBefore s.moves (number_of x) (number_of y)) s.agenda
  pub stands : AllByRecursion (Stands s.agenda s.moves) s.active
  -- the committed members are what the moves commit
  pub committed : IsPermutation (commits_of s.moves) (serial s.agenda)
