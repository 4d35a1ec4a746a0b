-- Why a disk is not opened.
use Rattle.std.specs.Prelude.{ℕ, List, Option, IfSome}
use Rattle.ltx_model.specs.Contents.{IsForeign, IsFaultyAt}
use Rattle.ltx_outside.specs.Faults.{Rose}
use Rattle.ltx_log.specs.declared.fault.OpenFault.{OpenFault}
use Rattle.ltx_log.specs.declared.fault.OpenFault.TheVariants as faults

-- the fault is want of memory, or one of the disk, whose count rose
abbrev pub IsDeviceFault : ℕ → ℕ → OpenFault → Type 0
IsDeviceFault old new faults.NotALog = ⊥
IsDeviceFault old new (faults.Damaged at) = ⊥
IsDeviceFault old new faults.DiskFault = Rose old new
IsDeviceFault old new faults.NoMemory = Unit {0}

-- the cause of a fault, by what the disk holds and by its count: a content that is neither blank nor a log, its first open gate over no
-- frame, a failed call
abbrev pub IsCause : Option (List ℕ) → ℕ → ℕ → OpenFault → Type 0
IsCause content old new faults.NotALog = IfSome content IsForeign
IsCause content old new (faults.Damaged at) = IfSome content (λ bytes. IsFaultyAt bytes at)
IsCause content old new faults.DiskFault = Rose old new
IsCause content old new faults.NoMemory = Unit {0}

-- the cause of a fault as far as the disk's content tells it
abbrev pub IsContentCause : Option (List ℕ) → OpenFault → Type 0
IsContentCause content faults.NotALog = IfSome content IsForeign
IsContentCause content (faults.Damaged at) = IfSome content (λ bytes. IsFaultyAt bytes at)
IsContentCause content faults.DiskFault = Unit {0}
IsContentCause content faults.NoMemory = Unit {0}

-- P holds after each fault but one of the disk
abbrev pub UnlessDiskFault : Type 0 → OpenFault → Type 0
UnlessDiskFault P faults.NotALog = P
UnlessDiskFault P (faults.Damaged at) = P
UnlessDiskFault P faults.DiskFault = Unit {0}
UnlessDiskFault P faults.NoMemory = P
