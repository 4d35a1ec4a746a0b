-- The moves without those of batches that left: what a log keeps of them.
use Rattle.std.specs.Prelude.{◌≡◌, ℕ, Bool, true, false, not, ◌==◌, List, [], ◌∷◌, ◌++◌, filter, Contains}
use Rattle.std.specs.List.{list_any}
use Rattle.ltx_model.specs.Agenda.{Member, LiveSlot, Move, Slot, CommitShort, CommitHome, CommitBefore, Leave, Timed, is_member, part_before, agenda_from, has_slot}

-- a batch of this number leaves
abbrev pub leaves : ℕ → Move → Bool
leaves n (Slot m) = false
leaves n (CommitShort t) = false
leaves n (CommitHome t) = false
leaves n (CommitBefore t target) = false
leaves n (Leave m) = m == n

abbrev pub is_leave : Move → Bool
is_leave (Slot m) = false
is_leave (CommitShort t) = false
is_leave (CommitHome t) = false
is_leave (CommitBefore t target) = false
is_leave (Leave m) = true

-- the moves of slots and commits alone
abbrev pub without_leaves : List Timed → List Timed
without_leaves moves = filter (λ m. not (is_leave m.move)) moves

-- the list that they give: a batch that left keeps its slot in it
abbrev pub logged_agenda : List Timed → List Member
logged_agenda moves = agenda_from [] (without_leaves moves)

-- a batch of this number left in these moves
abbrev pub has_left : List Timed → ℕ → Bool
has_left moves n = list_any (λ m. leaves n m.move) moves

-- What a move needs of the moves before it and of their agenda: a new number for a slot or a short, a live slot for a batch that
-- commits or leaves, and a target that stands before the slot.
abbrev pub IsLawful : List Timed → List Member → Move → Type 0
IsLawful past agenda (Slot n) = (is_member agenda n ≡ false) × (has_slot past n ≡ false)
IsLawful past agenda (CommitShort t) = (is_member agenda t.number ≡ false) × (has_slot past t.number ≡ false)
IsLawful past agenda (CommitHome t) = Contains agenda (LiveSlot t.number)
IsLawful past agenda (CommitBefore t target) = Contains agenda (LiveSlot t.number) × (is_member (part_before t.number agenda) target ≡ true)
IsLawful past agenda (Leave n) = Contains agenda (LiveSlot n) × (has_slot past n ≡ true)

-- each of the moves is lawful after those before it
abbrev pub AreLawful : List Timed → List Timed → Type 0
AreLawful past [] = Unit {0}
AreLawful past (m ∷ ms) = IsLawful past (agenda_from [] past) m.move × AreLawful (past ++ m ∷ []) ms
