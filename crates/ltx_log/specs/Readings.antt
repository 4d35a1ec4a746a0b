-- What is read of a disk.
use Rattle.std.specs.Prelude.{◌≡◌, ℕ, ◌+◌, ◌<◌, ◌≤◌, Bool, true, false, List, [], length, take, drop, map, Option, Some, None}
use Rattle.std.specs.Int.{to_be_bytes, w64}
use Rattle.ltx_model.specs.Frames.{Frame}
use Rattle.ltx_model.specs.Contents as contents
use Rattle.ltx_model.specs.Contents.{IsBlank, IsLog, IsForeign, IsOpenAt, IsClosedAt, IsLogOf, IsFaultyAt, StandsAt}
use Rattle.ltx_frame.specs.declared.frame.Placed.{Placed}
use Rattle.ltx_log.specs.declared.front.Kind.{Kind}
use Rattle.ltx_log.specs.declared.front.Kind.TheVariants as kinds
use Rattle.ltx_log.specs.declared.head.Head.{Head}

-- a frame at the place of its gate, as the definitions see it
abbrev pub placed_of : Placed → contents.Placed
placed_of p = record { at = p.at; frame = p.frame }

abbrev pub placed_in : List Placed → List contents.Placed
placed_in ps = map placed_of ps

-- what a disk with these bytes is
abbrev pub IsKind : List ℕ → Kind → Type 0
IsKind bytes kinds.Blank = IsBlank bytes
IsKind bytes kinds.Log = IsLog bytes
IsKind bytes kinds.Foreign = IsForeign bytes

-- the front of a disk: all of it, or as much as a header and a gate
pub record IsFront (bytes : List ℕ) (size : ℕ) (front : List ℕ) : Type 0 where
  pub whole : length bytes ≡ size
  pub front_is : front ≡ take 18 bytes

-- A gate, and the length of the body behind it where eight bytes stand there.
abbrev pub HasLength : List ℕ → ℕ → Option ℕ → Type 0
HasLength bytes gate None = length bytes < gate + 9
HasLength bytes gate (Some n) = (gate + 9 ≤ length bytes) × (n < 18446744073709551616) × (take 8 (drop (gate + 1) bytes) ≡ to_be_bytes w64 n)

abbrev pub IsGateAt : Bool → List ℕ → ℕ → Type 0
IsGateAt true bytes gate = IsOpenAt bytes gate
IsGateAt false bytes gate = IsClosedAt bytes gate

pub record IsHead (bytes : List ℕ) (gate : ℕ) (head : Head) : Type 0 where
  pub gate_is : IsGateAt head.is_open bytes gate
  pub body : HasLength bytes gate head.length

-- a body of so many bytes and the next gate stand behind a gate, within the log's limit
pub record IsBodyAt (bytes : List ℕ) (gate n : ℕ) (body : List ℕ) : Type 0 where
  pub within : gate + 9 + n + 1 ≤ length bytes
  pub limit : gate + 9 + n + 1 ≤ 1099511627776
  pub size : length body ≡ n
  pub bytes_are : body ≡ take n (drop (gate + 9) bytes)

-- there is none
abbrev pub HasNoBody : List ℕ → ℕ → ℕ → Type 0
HasNoBody bytes gate n = gate + 9 + n + 1 ≤ length bytes → gate + 9 + n + 1 ≤ 1099511627776 → ⊥

abbrev pub FindsBody : List ℕ → ℕ → ℕ → Option (List ℕ) → Type 0
FindsBody bytes gate n None = HasNoBody bytes gate n
FindsBody bytes gate n (Some body) = IsBodyAt bytes gate n body

-- the frame under an open gate, whose epoch is above this one, or none
abbrev pub FindsFrame : List ℕ → ℕ → ℕ → Option Frame → Type 0
FindsFrame bytes gate before None = (f : Frame) → StandsAt bytes gate before f → ⊥
FindsFrame bytes gate before (Some f) = StandsAt bytes gate before f

-- a blank disk has no frames; a log has these, and its closed gate here
abbrev pub IsReadAs : List ℕ → Bool → List contents.Placed → ℕ → Type 0
IsReadAs bytes true frames gate = IsBlank bytes × (frames ≡ []) × (gate ≡ 0)
IsReadAs bytes false frames gate = IsLogOf bytes frames gate
