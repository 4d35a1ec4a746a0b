-- A short transaction's number and notes.
use Rattle.std.specs.Prelude.{ℕ, List, [], ◌∷◌, ◌++◌}
use Rattle.ltx_model.specs.declared.looked.Noted.{Noted}
use Rattle.ltx_model.specs.NoteLists.{NoteList}

-- a transaction's number, its notes in order, the mark of each, and the mark of those to come
pub record Short : Type 0 where
  pub tx : ℕ
  pub notes : List Noted
  pub marks : List ℕ
  pub mark : ℕ

-- the short with these notes
abbrev pub short_with : ℕ → NoteList → Short
short_with tx l = record { tx = tx; notes = l.notes; marks = l.marks; mark = l.mark }

-- with one note more, of the present mark
abbrev pub noted : Short → Noted → Short
noted s note = record { tx = s.tx; notes = s.notes ++ note ∷ []; marks = s.marks ++ s.mark ∷ []; mark = s.mark }

-- the notes to come are of this mark
abbrev pub marked : Short → ℕ → Short
marked s mark = record { tx = s.tx; notes = s.notes; marks = s.marks; mark = mark }
