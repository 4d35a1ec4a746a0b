-- An open transaction as clauses see it, and what it is.
use Rattle.std.specs.Prelude.{ℕ, Bool, true, false, Option, Some, None}
use Rattle.ltx_model.specs.NoteLists.{NoteList}
use Rattle.ltx_model.specs.States.{Declaration}
use Rattle.ltx_buffer.specs.Own.{Own}
use Rattle.ltx_long.specs.Longs.{Long}
use Rattle.ltx_open.specs.declared.stage.Declared.{Declared}
use Rattle.ltx_open.specs.declared.stage.Stage.{Stage}
use Rattle.ltx_open.specs.declared.stage.Stage.TheVariants as stages
use Rattle.ltx_open.specs.declared.kind.Kind.{Kind}
use Rattle.ltx_open.specs.declared.kind.Kind.TheVariants as kinds

-- an open transaction: its number, what it is, its notes, and its own writes
pub record OpenView : Type 0 where
  pub number : ℕ
  pub stage : Stage
  pub notes : NoteList
  pub own : Own

-- what a batch declared
abbrev pub declaration : Declared → Declaration
declaration d = record { writes = d.writes; reads = d.reads; from = d.from }

-- the number, the notes, and what it is, of a transaction of either kind
abbrev pub number_of : Kind → ℕ
number_of (kinds.Short t) = t.tx
number_of (kinds.Long t) = t.tx

abbrev pub notes_of : Kind → NoteList
notes_of (kinds.Short t) = record { notes = t.notes; marks = t.marks; mark = t.mark }
notes_of (kinds.Long t) = t.list

abbrev pub declared_of : Long → Declared
declared_of t = record { writes = t.writes; reads = t.reads; from = t.from }

-- a batch is live from the moment at which it has a mark
abbrev pub stage_by : Declared → Option ℕ → Stage
stage_by d None = stages.Pending d
stage_by d (Some mark) = stages.Live d mark

abbrev pub stage_of : Kind → Stage
stage_of (kinds.Short t) = stages.Short
stage_of (kinds.Long t) = stage_by (declared_of t) t.live

-- a pending batch is live at this mark
abbrev pub live_at : ℕ → Stage → Stage
live_at mark stages.Short = stages.Short
live_at mark (stages.Pending d) = stages.Live d mark
live_at mark (stages.Live d m) = stages.Live d m

-- an open transaction after the slots of an epoch, at this mark
abbrev pub gone_live : ℕ → OpenView → OpenView
gone_live mark a = record { number = a.number; stage = live_at mark a.stage; notes = a.notes; own = a.own }

-- an open transaction that is no short
abbrev pub is_batch : Stage → Bool
is_batch stages.Short = false
is_batch (stages.Pending d) = true
is_batch (stages.Live d mark) = true

-- the batch with this declaration, number and notes, that is live at a mark, or pending
abbrev pub batch_of : Declared → Option ℕ → ℕ → NoteList → Long
batch_of d live number notes = record { tx = number; writes = d.writes; reads = d.reads; from = d.from; live = live; list = notes }

-- the batch that is open, or that what is open is none
abbrev pub long_by : Stage → ℕ → NoteList → Option Long
long_by stages.Short number notes = None
long_by (stages.Pending d) number notes = Some (batch_of d None number notes)
long_by (stages.Live d mark) number notes = Some (batch_of d (Some mark) number notes)

abbrev pub long_of : OpenView → Option Long
long_of a = long_by a.stage a.number a.notes
