-- The notes of a transaction as a list, each with the number of commits at its moment, and the tables that they are of.
use Rattle.std.specs.Prelude.{◌≡◌, ℕ, ◌+◌, ◌<◌, ◌≤◌, Bool, true, false, not, ◌&&◌, ◌==◌, List, [], ◌∷◌, ◌++◌, length, replicate, Option, Some, None}
use Rattle.std.specs.List.{list_any, flat_map, AllByRecursion}
use Rattle.ltx_model.specs.declared.looked.Noted.{Noted}
use Rattle.ltx_model.specs.declared.notes.Run.{Run}
use Rattle.ltx_model.specs.declared.looked.Reach.{Reach}
use Rattle.ltx_model.specs.declared.looked.Reach.TheVariants.{Nothing, Point, Range}
use Rattle.ltx_model.specs.Tables.{has_table}
use Rattle.ltx_model.specs.Limits.{most_operations}

-- notes in order, the mark of each, and the mark of those to come
pub record NoteList : Type 0 where
  pub notes : List Noted
  pub marks : List ℕ
  pub mark : ℕ

-- no notes yet, and none before the first commit
abbrev pub no_notes : NoteList
no_notes = record { notes = []; marks = []; mark = 0 }

-- with one note more, of the present mark
abbrev pub with_note : NoteList → Noted → NoteList
with_note l note = record { notes = l.notes ++ note ∷ []; marks = l.marks ++ l.mark ∷ []; mark = l.mark }

-- those to come are of this mark
abbrev pub at_mark : NoteList → ℕ → NoteList
at_mark l mark = record { notes = l.notes; marks = l.marks; mark = mark }

-- the marks of the notes of runs
abbrev pub marks_in : List Run → List ℕ
marks_in runs = flat_map (λ r. replicate r.count r.mark) runs

-- the marks of the notes of a run, where there is one
abbrev pub marks_in_last : Option Run → List ℕ
marks_in_last None = []
marks_in_last (Some r) = replicate r.count r.mark

-- how many runs are left, with the last one
abbrev pub runs_left : List Run → Option Run → ℕ
runs_left runs None = length runs
runs_left runs (Some r) = length runs + 1

-- the mark of each note: of those of earlier runs, and of the ones after them
abbrev pub marks_of : List Run → ℕ → ℕ → List ℕ
marks_of runs mark count = marks_in runs ++ replicate count mark

-- the operation touched the table
abbrev pub is_of_table : ℕ → Noted → Bool
is_of_table table note = note.table == table

-- what was reached looks into its table: a range, or a key that the transaction had not written before
abbrev pub looks_inside : Reach → Bool
looks_inside Nothing = false
looks_inside (Point key look own) = not own
looks_inside (Range low high looks own) = true

-- the operation looked into the table
abbrev pub looks_into_table : ℕ → Noted → Bool
looks_into_table table note = is_of_table table note && looks_inside note.reach

-- The number of notes is in its limit, those of earlier runs are some of them, tables are those that there are, and two sets have the
-- tables that are touched and looked into.
pub record IsSummary (notes : List Noted) (runs : List Run) (earlier touched looked_into : ℕ) : Type 0 where
  pub limit : length notes ≤ most_operations
  pub within : earlier ≤ length notes
  pub counted : length (marks_in runs) ≡ earlier
  pub tables : AllByRecursion (λ note. note.table < 64) notes
  pub touches : (t : ℕ) → t < 64 → has_table touched t ≡ list_any (is_of_table t) notes
  pub looks : (t : ℕ) → t < 64 → has_table looked_into t ≡ list_any (looks_into_table t) notes
