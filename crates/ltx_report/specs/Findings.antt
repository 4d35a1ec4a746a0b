-- What a disk gives when it is read whole: what its log recovers, or why there is nothing.
use Rattle.std.specs.Prelude.{◌≡◌, ℕ, List, [], Option, Some, None}
use Rattle.ltx_model.specs.States.{base_of}
use Rattle.ltx_model.specs.Restored.{Restored}
use Rattle.ltx_model.specs.Contents.{Placed, frames_in, IsForeign, IsFaultyAt}
use Rattle.ltx_model.specs.Recovery.{AreLawfulFrames, IsFirstUnlawful, IsUnlawfulAt, recovered, IsRecovered}
use Rattle.ltx_recover.specs.Frames.{IsBaseOf}
use Rattle.ltx_outside.specs.Faults.{Rose}
use Rattle.ltx_report.specs.declared.fault.DeviceFault.{DeviceFault}
use Rattle.ltx_report.specs.declared.fault.DeviceFault.TheVariants as faults
use Rattle.ltx_report.specs.declared.found.Found.{Found}
use Rattle.ltx_report.specs.declared.found.Found.TheVariants as founds
use Rattle.ltx_report.specs.declared.found.Refusal.{Refusal}
use Rattle.ltx_report.specs.declared.found.Refusal.TheVariants as refusals

-- a log is damaged at a gate that stands over no frame, or at an event that is not lawful
abbrev pub IsDamagedAt : ℕ → Option ℕ → List ℕ → Type 0
IsDamagedAt at None bytes = IsFaultyAt bytes at
IsDamagedAt at (Some event) bytes = IsUnlawfulAt bytes (record { at = at; event = event })

-- why a content gives no rows: it is neither blank nor a log, or a damaged one
abbrev pub IsRefused : List ℕ → Refusal → Type 0
IsRefused bytes refusals.NotALog = IsForeign bytes
IsRefused bytes (refusals.Damaged at event) = IsDamagedAt at event bytes

-- The content recovers these rows, this epoch and this last number.
pub record Restores (bytes : List ℕ) (r : Restored) : Type 0 where
  pub gate : ℕ
  pub recovered : IsRecovered bytes (base_of r gate)

-- this was found on a disk with this content
abbrev pub IsFoundOn : List ℕ → Found → Type 0
IsFoundOn bytes (founds.Recovered r) = Restores bytes r
IsFoundOn bytes (founds.Refused refusal) = IsRefused bytes refusal

-- nothing else can be found on it
abbrev pub IsOnly : Found → List ℕ → Type 0
IsOnly found bytes = (other : Found) → IsFoundOn bytes other → other ≡ found

-- Frames give these rows, this epoch and this last number, whatever gate is closed behind them.
pub record RestoresFrames (frames : List Placed) (r : Restored) : Type 0 where
  pub base : (gate : ℕ) → IsBaseOf r (recovered (frames_in frames) gate)
  pub lawful : AreLawfulFrames 0 [] (frames_in frames)

-- what was found in frames
abbrev pub GivesFrames : List Placed → Found → Type 0
GivesFrames frames (founds.Recovered r) = RestoresFrames frames r
GivesFrames frames (founds.Refused refusals.NotALog) = ⊥
GivesFrames frames (founds.Refused (refusals.Damaged at None)) = ⊥
GivesFrames frames (founds.Refused (refusals.Damaged at (Some event))) = IsFirstUnlawful frames (record { at = at; event = event })

-- why a disk was not read: a failed call, or want of memory
abbrev pub IsDiskCause : ℕ → ℕ → DeviceFault → Type 0
IsDiskCause old new faults.Disk = Rose old new
IsDiskCause old new faults.NoMemory = Unit {0}
