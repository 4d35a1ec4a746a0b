-- Whom a live batch may overtake: the batches that committed after its slot, and the live ones with smaller numbers.
use Rattle.std.specs.Prelude.{ℕ, Bool, true, false, List, nat_lt}
use Rattle.std.specs.List.{list_any}
use Rattle.ltx_model.specs.Agenda.{Move, Slot, CommitShort, CommitHome, CommitBefore, Leave, Timed, moves_since}
use Rattle.ltx_model.specs.States.{State, live_batches}

-- the move commits a batch
abbrev pub is_batch_commit : Move → Bool
is_batch_commit (Slot n) = false
is_batch_commit (CommitShort t) = false
is_batch_commit (CommitHome t) = true
is_batch_commit (CommitBefore t target) = true
is_batch_commit (Leave n) = false

-- some batch committed after the slot of the batch n
abbrev pub has_batch_since : List Timed → ℕ → Bool
has_batch_since moves n = list_any (λ m. is_batch_commit m.move) (moves_since n moves)

-- a live batch has a smaller number
abbrev pub has_elder : State → ℕ → Bool
has_elder s n = list_any (λ b. nat_lt b.tx.number n) (live_batches s)
