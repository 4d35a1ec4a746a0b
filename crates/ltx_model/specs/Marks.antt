-- Marks, which count commits: the mark of a slot and the number of a commit, read off the moves.
use Rattle.std.specs.Prelude.{◌≡◌, ℕ, suc, ◌+◌, true, false, ◌==◌, List, [], ◌∷◌, ◌++◌, length, Option, Some, None, option_map, if◌then◌else◌}
use Rattle.std.specs.List.{AllByRecursion}
use Rattle.ltx_model.specs.Operations.{Transaction}
use Rattle.ltx_model.specs.Agenda.{Timed, is_slot, has_slot, commits_of, moves_until}
use Rattle.ltx_model.specs.States.{State}

-- how many transactions have committed: the newest mark
abbrev pub newest_mark : State → ℕ
newest_mark s = length (commits_of s.moves)

-- the mark of a slot, which is the snapshot of its batch: how many transactions committed before it; none where there is no such slot
abbrev pub mark_of_slot : List Timed → ℕ → Option ℕ
mark_of_slot moves n = if has_slot moves n then Some (length (commits_of (moves_until n moves))) else None

-- The mark of the slot of the batch n: of the moves those before its slot commit so many.
pub record IsMarkOfSlot (moves : List Timed) (n mark : ℕ) : Type 0 where
  pub front : List Timed
  pub slot : Timed
  pub back : List Timed
  pub parts : moves ≡ front ++ slot ∷ back
  pub is : is_slot n slot.move ≡ true
  pub first : AllByRecursion (λ m. is_slot n m.move ≡ false) front
  pub mark_is : length (commits_of front) ≡ mark

-- a place among transactions, counted from 1: that of the first one with a number
abbrev pub place_in : List Transaction → ℕ → Option ℕ
place_in [] n = None
place_in (t ∷ ts) n = if t.number == n then Some 1 else option_map suc (place_in ts n)

-- the number of a commit, which is the mark of its versions and records: how many transactions have committed up to and with it;
-- none where the transaction has not committed
abbrev pub number_of_commit : List Timed → ℕ → Option ℕ
number_of_commit moves n = place_in (commits_of moves) n

-- The number of the commit of the transaction n: of the commits so many stand up to and with it.
pub record IsNumberOfCommit (moves : List Timed) (n number : ℕ) : Type 0 where
  pub front : List Transaction
  pub tx : Transaction
  pub back : List Transaction
  pub parts : commits_of moves ≡ front ++ tx ∷ back
  pub same : tx.number ≡ n
  pub first : AllByRecursion (λ t. (t.number == n) ≡ false) front
  pub number_is : length front + 1 ≡ number
