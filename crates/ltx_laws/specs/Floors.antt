-- The floor as a relation.
use Rattle.std.specs.Prelude.{◌≡◌, ◌⊎◌, ℕ, true, false, Contains}
use Rattle.ltx_model.specs.Agenda.{is_member, part_before, commits_after}
use Rattle.ltx_model.specs.States.{State, LiveBatch, live_batches}

-- n counts for the floor: it is a live batch, or a batch whose commit came after the slot of a batch that is live now
abbrev pub CountsForFloor : State → ℕ → Type 0
CountsForFloor s n = (b : LiveBatch) × Contains (live_batches s) b × ((b.tx.number ≡ n) ⊎ (commits_after s.moves b.tx.number n ≡ true))

-- The floor: a member of the agenda that counts, and nothing that counts stands before it.
pub record IsFloor (s : State) (f : ℕ) : Type 0 where
  pub counts : CountsForFloor s f
  pub member : is_member s.agenda f ≡ true
  pub first : (n : ℕ) → CountsForFloor s n → is_member (part_before f s.agenda) n ≡ false
