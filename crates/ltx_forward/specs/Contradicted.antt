-- Who is contradicted by a write at a place, as the records and the agenda's list tell it.
use Rattle.std.specs.Prelude.{◌≡◌, ◌≤◌, ◌<◌, ℕ, true, List, Option, Some, None, option_map, Contains}
use Rattle.std.specs.List.{AllByRecursion}
use Rattle.ltx_model.specs.declared.looked.Noted.{Noted}
use Rattle.ltx_model.specs.Keys.{Cell}
use Rattle.ltx_model.specs.Listings.{is_member, place_of}
use Rattle.ltx_model.specs.Records.{Records, covering, writers}
use Rattle.ltx_forward.specs.declared.witness.Witness.{Witness}

-- each of these is in the list
abbrev pub AreMembers : List ℕ → List ℕ → Type 0
AreMembers list ns = AllByRecursion (λ n. is_member list n ≡ true) ns

-- The earliest of these that is p or stands after it.
pub record IsEarliestFrom (list : List ℕ) (p : ℕ) (ns : List ℕ) (n : ℕ) : Type 0 where
  pub one : Contains ns n
  pub after : place_of list p ≤ place_of list n
  pub earliest : (m : ℕ) → Contains ns m → place_of list p ≤ place_of list m → place_of list n ≤ place_of list m

-- the earliest of these that is p or stands after it, or that there is none
abbrev pub IsFoundFrom : List ℕ → ℕ → List ℕ → Option ℕ → Type 0
IsFoundFrom list p ns None = (m : ℕ) → Contains ns m → place_of list m < place_of list p
IsFoundFrom list p ns (Some n) = IsEarliestFrom list p ns n

-- A kept reader of the key that is p or stands after it, while no kept writer of the key from p on stands before the reader.
pub record IsContradictedReader (records : Records) (list : List ℕ) (p : ℕ) (cell : Cell) (n : ℕ) : Type 0 where
  pub reads : Contains (covering records cell) n
  pub after : place_of list p ≤ place_of list n
  pub unwritten : (w : ℕ) → Contains (writers records cell) w → place_of list p ≤ place_of list w → place_of list n ≤ place_of list w

-- the earliest contradicted reader of the key, or that there is none
abbrev pub IsReaderFound : Records → List ℕ → ℕ → Cell → Option ℕ → Type 0
IsReaderFound records list p cell None = (n : ℕ) → IsContradictedReader records list p cell n → ⊥
IsReaderFound records list p cell (Some n) = IsContradictedReader records list p cell n × ((m : ℕ) → IsContradictedReader records list p cell m → place_of list n ≤ place_of list m)

-- the key of a table that a noted operation wrote
abbrev pub cell_of_note : Noted → Option Cell
cell_of_note note = option_map (λ key. record { table = note.table; key = key }) note.write

-- nobody who read what the noted operation wrote is contradicted
abbrev pub IsSpared : Records → List ℕ → ℕ → Noted → Type 0
IsSpared records list p note = (cell : Cell) → cell_of_note note ≡ Some cell → IsReaderFound records list p cell None

-- the witness that the noted operation is, or that it is none
abbrev pub IsWitnessOf : Records → List ℕ → ℕ → ℕ → Noted → Option Witness → Type 0
IsWitnessOf records list p op note None = IsSpared records list p note
IsWitnessOf records list p op note (Some w) = (w.op ≡ op) × (cell_of_note note ≡ Some (record { table = w.table; key = w.key })) × IsReaderFound records list p (record { table = w.table; key = w.key }) (Some w.other)
