-- What is kept of each run's lane.
use Rattle.ltx_agenda.specs.declared.mark.Mark.{Mark}
use Rattle.std.specs.Prelude.{ℕ, ◌≡◌, Bool, false, List, map, slice_index_or}
use Rattle.ltx_agenda.specs.Lanes.{lane_no, start_no}

-- which runs end their lanes
abbrev pub ends_of : List Mark → List Bool
ends_of marks = map (λ m. m.ends) marks

-- the mark of a run
abbrev pub mark_at : List Mark → ℕ → Mark
mark_at marks b = slice_index_or marks b (record { ends = false; lane = 0; start = 0 })

-- the run's lane is told
abbrev pub IsInLane : List Mark → ℕ → Type 0
IsInLane marks b = (mark_at marks b).lane ≡ lane_no 0 (ends_of marks) b

-- it is told where the run starts in its lane
abbrev pub IsStarted : List Mark → List (List ℕ) → ℕ → Type 0
IsStarted marks rows b = (mark_at marks b).start ≡ start_no 0 (ends_of marks) rows b
