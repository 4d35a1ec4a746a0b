-- A log that is open for appending: what it shows, and what an append leaves.
use Rattle.std.specs.Prelude.{◌≡◌, ◌⊎◌, ℕ, ◌+◌, ◌≤◌, List, [], ◌∷◌, ◌++◌, Bool, true, false, Option, IfSome}
use Rattle.ltx_model.specs.Frames.{Frame}
use Rattle.ltx_model.specs.Spellings.{body_bytes, IsFrame}
use Rattle.ltx_model.specs.Contents.{Placed, IsBlank, IsLogOf, framed, epoch_after, frames_in, next_gate, first_gate}
use Rattle.ltx_model.specs.Disks.{Crashes, EachImage}
use Rattle.ltx_outside.specs.Faults.{Rose}
use Rattle.ltx_log.specs.declared.fault.AppendFault.{AppendFault}
use Rattle.ltx_log.specs.declared.fault.AppendFault.TheVariants as faults
use Rattle.ltx_log.specs.Images.{IsStill}
use Rattle.ltx_log.specs.Making.{IsFresh}

-- What a log shows: its disk's content, images, faults and loan, the place of its closed gate, its last frame's epoch, or 0, and whether
-- it was closed by a fault.
pub record LogState : Type 0 where
  pub content : Option (List ℕ)
  pub crashes : Option Crashes
  pub faults : ℕ
  pub loan : ℕ
  pub gate : ℕ
  pub last : ℕ
  pub closed : Bool

-- A log of these frames, whose closed gate stands here, and of whose last frame this is the epoch.
pub record IsLogTo (bytes : List ℕ) (frames : List Placed) (gate last : ℕ) : Type 0 where
  pub log : IsLogOf bytes frames gate
  pub last_is : epoch_after 0 (frames_in frames) ≡ last

-- a log of some frames
pub record IsSomeLog (bytes : List ℕ) (gate last : ℕ) : Type 0 where
  pub frames : List Placed
  pub log : IsLogTo bytes frames gate last

-- Where the disk tells it, its content is a log of some frames, and nothing is pending.
pub record IsRunning (content : Option (List ℕ)) (crashes : Option Crashes) (gate last : ℕ) : Type 0 where
  pub log : IfSome content (λ bytes. IsSomeLog bytes gate last)
  pub still : IsStill content crashes

-- the frames from before, and one more behind them
abbrev pub with_frame : List Placed → ℕ → Frame → List Placed
with_frame frames gate f = frames ++ record { at = gate; frame = f } ∷ []

-- a frame and the next gate end within the log's limit
abbrev pub HasRoom : ℕ → Frame → Type 0
HasRoom gate f = next_gate gate f + 1 ≤ 1099511627776

-- whatever frames it had, it has them still
abbrev pub KeepsFrames : ℕ → ℕ → List ℕ → List ℕ → Type 0
KeepsFrames gate last old new = (frames : List Placed) → IsLogTo old frames gate last → IsLogTo new frames gate last

-- it has them and this one
abbrev pub AddsFrame : ℕ → ℕ → Frame → List ℕ → List ℕ → Type 0
AddsFrame gate last f old new = (frames : List Placed) → IsLogTo old frames gate last → IsLogTo new (with_frame frames gate f) (next_gate gate f) f.epoch

-- the one or the other
abbrev pub MayAddFrame : ℕ → ℕ → Frame → List ℕ → List ℕ → Type 0
MayAddFrame gate last f old new = KeepsFrames gate last old new ⊎ AddsFrame gate last f old new

-- each image now has P of the bytes from before
abbrev pub EachNow : (List ℕ → List ℕ → Type 0) → Option (List ℕ) → Option Crashes → Type 0
EachNow P content new = IfSome content (λ bytes. IfSome new (λ told. EachImage (P bytes) told.now))

-- A piece spells a frame behind a gate, with a next gate of 0. The frame may follow one of the last epoch, and has room.
pub record IsPiece (piece : List ℕ) (gate last : ℕ) (f : Frame) : Type 0 where
  pub frame : IsFrame f
  pub bytes : piece ≡ framed (body_bytes f) ++ 0 ∷ []
  pub above : last + 1 ≤ f.epoch
  pub room : HasRoom gate f

-- The cause of a refused append, by what the log showed and shows. None but a fault of the disk changes anything.
abbrev pub IsAppendCause : LogState → LogState → Frame → AppendFault → Type 0
IsAppendCause old new f faults.Closed = (old.closed ≡ true) × (new ≡ old)
IsAppendCause old new f faults.LimitLog = (old.closed ≡ false) × (HasRoom old.gate f → ⊥) × (new ≡ old)
IsAppendCause old new f faults.NoMemory = (old.closed ≡ false) × (new ≡ old)
IsAppendCause old new f faults.DiskFault = (old.closed ≡ false) × HasRoom old.gate f × Rose old.faults new.faults × (new.closed ≡ true)

-- after a refusal of an open log without a fault of the disk, each image now has the frames from before
abbrev pub LeavesFrames : LogState → LogState → AppendFault → Type 0
LeavesFrames old new faults.Closed = Unit {0}
LeavesFrames old new faults.LimitLog = EachNow (KeepsFrames old.gate old.last) old.content new.crashes
LeavesFrames old new faults.NoMemory = EachNow (KeepsFrames old.gate old.last) old.content new.crashes
LeavesFrames old new faults.DiskFault = Unit {0}

-- an opening leaves the bytes untouched, or blank, or a log without frames where they were blank
abbrev pub OpensTo : List ℕ → List ℕ → Type 0
OpensTo old new = (new ≡ old) ⊎ (IsBlank old × IsFresh new)

-- the bytes were blank, and there are no frames before the first gate, or they were a log of these
abbrev pub IsOpenedAs : List ℕ → List Placed → ℕ → Type 0
IsOpenedAs bytes frames gate = (IsBlank bytes × (frames ≡ []) × (gate ≡ first_gate)) ⊎ IsLogOf bytes frames gate

-- A blank disk was made a log without frames.
pub record IsMade (old new : Option (List ℕ)) (frames : List Placed) : Type 0 where
  pub blank : IfSome old IsBlank
  pub made : IfSome new (λ bytes. IsLogOf bytes [] first_gate)
  pub none : frames ≡ []

-- an opening that finds these frames leaves the content as it was, or makes a log of a blank one
abbrev pub FindsOrMakes : Option (List ℕ) → Option (List ℕ) → List Placed → Type 0
FindsOrMakes old new frames = (new ≡ old) ⊎ IsMade old new frames
