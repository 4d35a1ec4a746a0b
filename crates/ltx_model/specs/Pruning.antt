-- What pruning forgets: versions below the least mark that is still seen, and the members before the floor.
use Rattle.std.specs.Prelude.{◌≡◌, ◌⊎◌, ℕ, ◌≤◌, List, [], ◌∷◌, map, filter_map, min, Contains}
use Rattle.ltx_model.specs.States.{State, LiveBatch, live_batches}
use Rattle.ltx_model.specs.Marks.{newest_mark, mark_of_slot, IsMarkOfSlot}
use Rattle.ltx_model.specs.Batches.{safe}

-- the marks of the live batches, in the order of their numbers
abbrev pub live_marks : State → List ℕ
live_marks s = filter_map (λ b. mark_of_slot s.moves b.tx.number) (live_batches s)

-- the least of numbers and one more
abbrev pub least_of : ℕ → List ℕ → ℕ
least_of most [] = most
least_of most (n ∷ ns) = min n (least_of most ns)

-- the mark at which versions are pruned: the least one of a live batch, or the newest
abbrev pub prune_mark : State → ℕ
prune_mark s = least_of (newest_mark s) (live_marks s)

-- m is the newest mark or that of a live batch, and none of these is less.
pub record IsPruneMark (s : State) (m : ℕ) : Type 0 where
  pub one : (m ≡ newest_mark s) ⊎ ((b : LiveBatch) × Contains (live_batches s) b × IsMarkOfSlot s.moves b.tx.number m)
  pub newest : m ≤ newest_mark s
  pub least : (b : LiveBatch) (n : ℕ) → Contains (live_batches s) b → IsMarkOfSlot s.moves b.tx.number n → m ≤ n

-- the committed members before the floor, or all where there is none: what nobody asks for any more
abbrev pub below : State → List ℕ
below s = map (λ t. t.number) (safe s)
