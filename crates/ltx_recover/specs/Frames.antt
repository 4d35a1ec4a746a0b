-- Frames as the definitions of recovery see them, and why they were not recovered.
use Rattle.std.specs.Prelude.{◌≡◌, List, map, Some}
use Rattle.ltx_model.specs.Restored.{Restored}
use Rattle.ltx_model.specs.States.{Base}
use Rattle.ltx_model.specs.Contents as contents
use Rattle.ltx_model.specs.Contents.{frames_in}
use Rattle.ltx_model.specs.Frames.{Frame, LogEvent}
use Rattle.ltx_model.specs.Logs.{events_in}
use Rattle.ltx_model.specs.Recovery.{first_unlawful, IsFirstUnlawful}
use Rattle.ltx_frame.specs.declared.frame.Placed.{Placed}
use Rattle.ltx_recover.specs.declared.fault.RecoverFault.{RecoverFault}
use Rattle.ltx_recover.specs.declared.fault.RecoverFault.TheVariants as faults

-- a frame at the place of its gate
abbrev pub placed_of : Placed → contents.Placed
placed_of p = record { at = p.at; frame = p.frame }

abbrev pub placed_in : List Placed → List contents.Placed
placed_in ps = map placed_of ps

-- the frames without their places
abbrev pub frames_of : List Placed → List Frame
frames_of ps = frames_in (placed_in ps)

-- all events, frame by frame
abbrev pub events_of_all : List Placed → List LogEvent
events_of_all ps = events_in (frames_of ps)

-- Rows, an epoch and a last number are those of a base.
pub record IsBaseOf (r : Restored) (base : Base) : Type 0 where
  pub rows : r.rows ≡ base.rows
  pub epoch : r.epoch ≡ base.durable
  pub last : r.last ≡ base.last

-- Damaged: this event is the first that is not lawful.
abbrev pub IsCause : List contents.Placed → RecoverFault → Type 0
IsCause frames (faults.Damaged at event) = first_unlawful frames ≡ Some (record { at = at; event = event })
IsCause frames faults.NoMemory = Unit {0}

-- The same in words: all events before it are lawful, and it is not.
abbrev pub IsAtFirst : List contents.Placed → RecoverFault → Type 0
IsAtFirst frames (faults.Damaged at event) = IsFirstUnlawful frames (record { at = at; event = event })
IsAtFirst frames faults.NoMemory = Unit {0}
