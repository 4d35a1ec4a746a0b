-- An open batch: what it declared, since when it is live, and its notes.
use Rattle.std.specs.Prelude.{ℕ, Option, Some, None}
use Rattle.ltx_model.specs.declared.looked.Noted.{Noted}
use Rattle.ltx_model.specs.NoteLists.{NoteList, no_notes, with_note}

-- A batch's number, the tables that it declared for writing and for reading, the epoch in which it becomes live, the mark at which
-- it did where it is live, and its notes.
pub record Long : Type 0 where
  pub tx : ℕ
  pub writes : ℕ
  pub reads : ℕ
  pub from : ℕ
  pub live : Option ℕ
  pub list : NoteList

-- a batch that has begun: it is pending, and has no notes
abbrev pub begun : ℕ → ℕ → ℕ → ℕ → Long
begun tx writes reads from = record { tx = tx; writes = writes; reads = reads; from = from; live = None; list = no_notes }

-- the batch, live at this mark
abbrev pub live_at : Long → ℕ → Long
live_at b mark = record { tx = b.tx; writes = b.writes; reads = b.reads; from = b.from; live = Some mark; list = b.list }

-- with one note more
abbrev pub noted : Long → Noted → Long
noted b note = record { tx = b.tx; writes = b.writes; reads = b.reads; from = b.from; live = b.live; list = with_note b.list note }
