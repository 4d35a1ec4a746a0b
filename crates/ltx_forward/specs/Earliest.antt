-- The earliest of some members of the agenda, and whom a batch overtakes by what is recorded.
use Rattle.std.specs.Prelude.{◌≡◌, ◌⊎◌, ℕ, ◌<◌, ◌≤◌, true, List, Option, Some, None, Contains}
use Rattle.std.specs.List.{list_any, AllByRecursion}
use Rattle.std.specs.List.Sorted.{IsStrictlySortedBy}
use Rattle.ltx_model.specs.declared.looked.Noted.{Noted}
use Rattle.ltx_model.specs.declared.looked.Reach.{Reach}
use Rattle.ltx_model.specs.declared.looked.Reach.TheVariants.{Nothing, Point, Range}
use Rattle.ltx_model.specs.Keys.{Cell, key_cmp}
use Rattle.ltx_model.specs.Tables.{has_table, CommonTable}
use Rattle.ltx_model.specs.NoteLists.{looks_into_table}
use Rattle.ltx_model.specs.Listings.{is_member, place_of}
use Rattle.ltx_model.specs.Notes.{note_looks_up, notes_look_up}
use Rattle.ltx_model.specs.Records.{Recorded, Records, has_written}
use Rattle.ltx_long.specs.Longs.{Long}
use Rattle.ltx_forward.specs.declared.decide.Live.{Live}

-- one member stands before another one
abbrev pub Ahead : List ℕ → ℕ → ℕ → Type 0
Ahead list a b = place_of list a < place_of list b

-- the number stands after this member, if there is one
abbrev pub IsAfter : List ℕ → Option ℕ → ℕ → Type 0
IsAfter list None n = Unit {0}
IsAfter list (Some a) n = Ahead list a n

-- if there is a number, it is a member's
abbrev pub IsMemberIfAny : List ℕ → Option ℕ → Type 0
IsMemberIfAny list None = Unit {0}
IsMemberIfAny list (Some n) = is_member list n ≡ true

-- there is a number, and n does not stand before it
abbrev pub IsAtMost : List ℕ → Option ℕ → ℕ → Type 0
IsAtMost list None n = ⊥
IsAtMost list (Some b) n = place_of list b ≤ place_of list n

-- The earlier of a number that was there and of the earliest of some more ones: it is one of them, and none of them stands before it.
pub record Improves (list : List ℕ) (More : ℕ → Type 0) (best found : Option ℕ) : Type 0 where
  pub bound : (n : ℕ) → More n → IsAtMost list found n
  pub kept : (n : ℕ) → best ≡ Some n → IsAtMost list found n
  pub origin : (n : ℕ) → found ≡ Some n → (best ≡ Some n) ⊎ More n
  pub member : IsMemberIfAny list best → IsMemberIfAny list found

-- A kept batch that committed after so many commits, stands before the batch `own` and wrote the key.
pub record IsWriter (records : Records) (list : List ℕ) (own mark : ℕ) (cell : Cell) (n : ℕ) : Type 0 where
  pub entry : Recorded
  pub kept : Contains records.kept entry
  pub number : entry.number ≡ n
  pub batch : entry.batch ≡ true
  pub later : mark < entry.mark
  pub written : has_written cell entry ≡ true
  pub ahead : Ahead list n own

-- Such a one wrote a key that the note looks up.
pub record IsWriterFor (records : Records) (list : List ℕ) (own mark : ℕ) (note : Noted) (n : ℕ) : Type 0 where
  pub cell : Cell
  pub looks : note_looks_up cell note ≡ true
  pub writer : IsWriter records list own mark cell n

-- Such a one wrote a key that some of the notes look up.
pub record IsWriterBy (records : Records) (list : List ℕ) (own mark : ℕ) (notes : List Noted) (n : ℕ) : Type 0 where
  pub cell : Cell
  pub looks : notes_look_up notes cell ≡ true
  pub writer : IsWriter records list own mark cell n

-- A live batch with a smaller number preserves a table of a set.
pub record IsHolder (lives : List Live) (own looked : ℕ) (n : ℕ) : Type 0 where
  pub live : Live
  pub here : Contains lives live
  pub number : live.tx ≡ n
  pub smaller : live.tx < own
  pub common : CommonTable live.writes looked

-- A live batch with a smaller number preserves a table into which the batch's notes look.
pub record IsElder (tx : Long) (lives : List Live) (n : ℕ) : Type 0 where
  pub live : Live
  pub here : Contains lives live
  pub number : live.tx ≡ n
  pub smaller : live.tx < tx.tx
  pub table : ℕ
  pub preserves : has_table live.writes table ≡ true
  pub looks : list_any (looks_into_table table) tx.list.notes ≡ true

-- The batch is live and overtakes n, by what is recorded: n is such an elder, or committed after the slot, stands before it and wrote a
-- key that the batch's notes look up.
pub record IsOvertaken (tx : Long) (lives : List Live) (records : Records) (list : List ℕ) (n : ℕ) : Type 0 where
  pub mark : ℕ
  pub live : tx.live ≡ Some mark
  pub by : IsElder tx lives n ⊎ IsWriterBy records list tx.tx mark tx.list.notes n

-- the keys of a range's own list stand in their order
abbrev pub HasOrderedOwn : Reach → Type 0
HasOrderedOwn Nothing = Unit {0}
HasOrderedOwn (Point key look own) = Unit {0}
HasOrderedOwn (Range low high looks own) = IsStrictlySortedBy key_cmp own

-- each kept transaction is a member
abbrev pub AreMembers : Records → List ℕ → Type 0
AreMembers records list = (r : Recorded) → Contains records.kept r → is_member list r.number ≡ true

-- the batch itself, the live batches and the kept transactions are members, and the notes' own keys stand in order
pub record IsPlaceable (tx : Long) (lives : List Live) (records : Records) (list : List ℕ) : Type 0 where
  pub own : is_member list tx.tx ≡ true
  pub others : (live : Live) → Contains lives live → is_member list live.tx ≡ true
  pub kept : AreMembers records list
  pub ordered : AllByRecursion (λ note. HasOrderedOwn note.reach) tx.list.notes
