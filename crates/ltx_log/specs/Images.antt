-- What a call leaves of the images of a disk, where the disk tells its bytes and them.
use Rattle.std.specs.Prelude.{ℕ, List, Option, Some, None, IfSome, IsSomeAnd}
use Rattle.ltx_model.specs.Disks.{Crashes, IsSettled, Leaves}

-- what was told goes on being told
abbrev pub StaysTold : Option (List ℕ) → Option (List ℕ) → Type 0
StaysTold None new = Unit {0}
StaysTold (Some old) None = ⊥
StaysTold (Some old) (Some new) = Unit {0}

-- nothing is pending
abbrev pub IsStill : Option (List ℕ) → Option Crashes → Type 0
IsStill content crashes = IfSome content (λ bytes. IfSome crashes (λ told. IsSettled bytes told.now))

-- each image since a call began has P of the bytes from before it
abbrev pub EachSince : (List ℕ → List ℕ → Type 0) → Option (List ℕ) → Option Crashes → Option Crashes → Type 0
EachSince P content old new = IfSome content (λ bytes. IfSome old (λ before. IsSomeAnd new (Leaves (P bytes) before)))
