-- The agenda as a list of numbers, each of which stands in it once at most, and what moves change in it.
use Rattle.std.specs.Prelude.{ℕ, zero, suc, Bool, not, ◌==◌, List, [], ◌∷◌, ◌++◌, map, filter, if◌then◌else◌}
use Rattle.std.specs.List.{list_any}
use Rattle.ltx_model.specs.Agenda.{Move, Slot, CommitShort, CommitHome, CommitBefore, Leave, Timed, number_of}
use Rattle.ltx_model.specs.States.{State}

-- The numbers in order, and how many more can be appended without taking memory.
pub record Listing : Type 0 where
  pub list : List ℕ
  pub room : ℕ

-- whether the number is in the list
abbrev pub is_member : List ℕ → ℕ → Bool
is_member ms n = list_any (λ m. m == n) ms

-- the list without a number
abbrev pub without : List ℕ → ℕ → List ℕ
without ms n = filter (λ m. not (m == n)) ms

-- a number immediately before another one
abbrev pub insert_before : ℕ → ℕ → List ℕ → List ℕ
insert_before x target [] = []
insert_before x target (m ∷ ms) = if m == target then x ∷ m ∷ ms else m ∷ insert_before x target ms

-- how many stand before the number
abbrev pub place_of : List ℕ → ℕ → ℕ
place_of [] n = zero
place_of (m ∷ ms) n = if m == n then zero else suc (place_of ms n)

-- the numbers of the agenda's members, in order
abbrev pub numbers_of : State → List ℕ
numbers_of s = map number_of s.agenda

-- the list after a move: a slot or a short is appended, a batch commits where it stands or moves before its target, a batch leaves
abbrev pub list_after : List ℕ → Move → List ℕ
list_after ns (Slot n) = ns ++ n ∷ []
list_after ns (CommitShort t) = ns ++ t.number ∷ []
list_after ns (CommitHome t) = ns
list_after ns (CommitBefore t target) = insert_before t.number target (without ns t.number)
list_after ns (Leave n) = without ns n

-- the list after several moves
abbrev pub list_from : List ℕ → List Timed → List ℕ
list_from ns [] = ns
list_from ns (m ∷ ms) = list_from (list_after ns m.move) ms
