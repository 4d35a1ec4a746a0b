-- What an operation leaves of an open transaction, and what it is answered, by the rows at a mark.
use Rattle.std.specs.Prelude.{◌≡◌, ℕ, List, [], ◌∷◌, ◌++◌, Option, Some}
use Rattle.ltx_model.specs.declared.commands.Op.{Op}
use Rattle.ltx_model.specs.declared.looked.Noted.{Noted}
use Rattle.ltx_model.specs.declared.replies.Reply.{Reply}
use Rattle.ltx_model.specs.declared.writes.Look.{Look}
use Rattle.ltx_model.specs.Keys.{Cell}
use Rattle.ltx_model.specs.Operations.{write_of, put_write, writes_of}
use Rattle.ltx_model.specs.Rows.{see}
use Rattle.ltx_model.specs.Notes.{IsNoteBy}
use Rattle.ltx_chain.specs.Versions.{visible}
use Rattle.ltx_store.specs.Kept.{Kept, versions_at, rows_at}
use Rattle.ltx_store.specs.Scans.{look_of_version}
use Rattle.ltx_open.specs.declared.stage.Stage.TheVariants as stages
use Rattle.ltx_open.specs.Views.{OpenView}
use Rattle.ltx_open.specs.Slots.{HasAt}

-- the look of a key is that of its version seen at the mark, a deletion too; there is none where no version is seen
abbrev pub IsSeenLook : List Kept → ℕ → Cell → Option Look → Type 0
IsSeenLook kept mark cell look = look ≡ look_of_version cell.key (visible mark (versions_at kept cell))

-- An operation at a mark: it is noted, by a short with that mark, its write is with the own ones, and the reply is what the
-- transaction sees with its earlier writes over the rows at the mark.
pub record HasDone (kept : List Kept) (mark : ℕ) (old : OpenView) (op : Op) (reply : Reply) (new : OpenView) : Type 0 where
  pub number : new.number ≡ old.number
  pub stage : new.stage ≡ old.stage
  pub note : Noted
  pub noted : new.notes.notes ≡ old.notes.notes ++ note ∷ []
  pub marked : old.stage ≡ stages.Short → new.notes.marks ≡ old.notes.marks ++ mark ∷ []
  pub own : new.own.writes ≡ put_write (write_of op) old.own.writes
  pub seen : (earlier : List Op) → old.own.writes ≡ writes_of earlier → reply ≡ see old.number (rows_at mark kept) earlier op
  pub note_is : (earlier : List Op) → old.own.writes ≡ writes_of earlier → IsNoteBy (IsSeenLook kept mark) earlier op note

-- the open transaction of a slot has done one operation more
pub record HasDoneIn (kept : List Kept) (mark : ℕ) (a : OpenView) (op : Op) (reply : Reply) (new : Option OpenView) : Type 0 where
  pub now : OpenView
  pub done : HasDone kept mark a op reply now
  pub is : new ≡ Some now

-- the session's open transaction has done one operation more
pub record HasMore (kept : List Kept) (mark : ℕ) (old : List (Option OpenView)) (session : ℕ) (a : OpenView) (op : Op) (reply : Reply) (new : List (Option OpenView)) : Type 0 where
  pub now : OpenView
  pub done : HasDone kept mark a op reply now
  pub kept_at : HasAt old session (Some now) new
