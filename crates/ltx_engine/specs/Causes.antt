-- Why an engine is not opened, and why a line is not answered.
use Rattle.std.specs.Prelude.{◌≡◌, ◌⊎◌, ℕ, true, false, List, [], Option, Some, None, IfSome}
use Rattle.ltx_model.specs.declared.commands.Line.{Line}
use Rattle.ltx_model.specs.Contents.{IsForeign, IsBlank, IsFaultyAt, IsLogOf, first_gate}
use Rattle.ltx_model.specs.Recovery.{IsUnlawfulAt}
use Rattle.ltx_outside.specs.Faults.{Rose}
use Rattle.ltx_engine.specs.declared.fault.EngineOpenFault.{EngineOpenFault}
use Rattle.ltx_engine.specs.declared.fault.EngineOpenFault.TheVariants as opening
use Rattle.ltx_engine.specs.declared.fault.EngineFault.{EngineFault}
use Rattle.ltx_engine.specs.declared.fault.EngineFault.TheVariants as faults
use Rattle.ltx_engine.specs.Views.{EngineView, is_flush, MustWrite}

-- a log is damaged at a gate that stands over no frame, or at an event that is not lawful
abbrev pub IsDamagedAt : ℕ → Option ℕ → List ℕ → Type 0
IsDamagedAt at None bytes = IsFaultyAt bytes at
IsDamagedAt at (Some event) bytes = IsUnlawfulAt bytes (record { at = at; event = event })

-- The cause of a refused opening, by what the disk held and by its count: a content that is neither blank nor a log, the first open gate
-- over no frame or the first event that is not lawful, a failed call.
abbrev pub IsOpenCause : Option (List ℕ) → ℕ → ℕ → EngineOpenFault → Type 0
IsOpenCause content old new opening.NotALog = IfSome content IsForeign
IsOpenCause content old new (opening.Damaged at event) = IfSome content (IsDamagedAt at event)
IsOpenCause content old new opening.DiskFault = Rose old new
IsOpenCause content old new opening.NoMemory = Unit {0}

-- the cause of a refused opening as far as the disk's content tells it
abbrev pub IsContentCause : Option (List ℕ) → EngineOpenFault → Type 0
IsContentCause content opening.NotALog = IfSome content IsForeign
IsContentCause content (opening.Damaged at event) = IfSome content (IsDamagedAt at event)
IsContentCause content opening.DiskFault = Unit {0}
IsContentCause content opening.NoMemory = Unit {0}

-- A blank content became a log without frames.
pub record IsMade (old new : Option (List ℕ)) : Type 0 where
  pub blank : IfSome old IsBlank
  pub made : IfSome new (λ bytes. IsLogOf bytes [] first_gate)

-- What a refused opening leaves of the content, by its fault: what it was. Where memory was wanting, a blank one may be a log without
-- frames. Of a fault of the disk nothing is said.
abbrev pub LeavesContent : Option (List ℕ) → Option (List ℕ) → EngineOpenFault → Type 0
LeavesContent old new opening.NotALog = new ≡ old
LeavesContent old new (opening.Damaged at event) = new ≡ old
LeavesContent old new opening.DiskFault = Unit {0}
LeavesContent old new opening.NoMemory = (new ≡ old) ⊎ IsMade old new

-- P holds after each fault but one of the disk
abbrev pub UnlessDiskFault : Type 0 → EngineOpenFault → Type 0
UnlessDiskFault P opening.NotALog = P
UnlessDiskFault P (opening.Damaged at event) = P
UnlessDiskFault P opening.DiskFault = Unit {0}
UnlessDiskFault P opening.NoMemory = P

-- The line asks a flush that must write a frame.
pub record AsksWrite (engine : EngineView) (line : Line) : Type 0 where
  pub flush : is_flush line ≡ true
  pub must : MustWrite engine

-- The cause of a fault: a flush that must write, of a log that is closed or whose disk fails, which then is closed. Nothing else changes.
abbrev pub IsCause : EngineView → EngineView → Line → EngineFault → Type 0
IsCause old new line faults.Closed = AsksWrite old line × (old.log.closed ≡ true) × (new ≡ old)
IsCause old new line faults.DiskFault = AsksWrite old line × (old.log.closed ≡ false) × Rose old.log.faults new.log.faults × (new.core ≡ old.core) × (new.log.closed ≡ true)
IsCause old new line faults.NoMemory = new.log ≡ old.log
