-- The bytes of a frame's body, and what a body may hold. Numbers are written with the highest byte first.
use Rattle.std.specs.Prelude.{◌≡◌, ℕ, ◌<◌, ◌≤◌, ◌^◌, List, [], ◌∷◌, ◌++◌, length, flat_map, Option, Some, None}
use Rattle.std.specs.List.{AllByRecursion}
use Rattle.std.specs.Int.{to_be_bytes, w16, w32, w64}
use Rattle.ltx_model.specs.declared.writes.Write.{Write}
use Rattle.ltx_model.specs.Limits.{last_durable, most_operations, IsTx, IsTable, IsKey, IsValue}
use Rattle.ltx_model.specs.Keys.{IsRising}
use Rattle.ltx_model.specs.Operations.{cell_of_write}
use Rattle.ltx_model.specs.Frames.{LogEvent, SlotEvent, ShortEvent, BatchEvent, Frame}
use Rattle.ltx_model.specs.Played.{IsClosed, NeverFalls}

-- a put is 0, a deletion 1
abbrev pub write_kind : Option (List ℕ) → ℕ
write_kind None = 1
write_kind (Some value) = 0

-- a value after its length in two bytes; a deletion has none
abbrev pub value_bytes : Option (List ℕ) → List ℕ
value_bytes None = []
value_bytes (Some value) = to_be_bytes w16 (length value) ++ value

-- a write: its kind, the table, the key after its length, and the value
abbrev pub write_bytes : Write → List ℕ
write_bytes w = write_kind w.put ∷ w.table ∷ length w.key ∷ w.key ++ value_bytes w.put

-- writes after their count in four bytes
abbrev pub writes_bytes : List Write → List ℕ
writes_bytes ws = to_be_bytes w32 (length ws) ++ flat_map write_bytes ws

-- where a batch commits: 0 at its slot, or 1 and the target
abbrev pub target_bytes : Option ℕ → List ℕ
target_bytes None = 0 ∷ []
target_bytes (Some target) = 1 ∷ to_be_bytes w64 target

-- an event: 1 for a slot, 2 for a short, 3 for a batch, then the number, and of a commit the epoch, the place of a batch and the writes
abbrev pub event_bytes : LogEvent → List ℕ
event_bytes (SlotEvent n) = 1 ∷ to_be_bytes w64 n
event_bytes (ShortEvent n epoch writes) = 2 ∷ to_be_bytes w64 n ++ to_be_bytes w32 epoch ++ writes_bytes writes
event_bytes (BatchEvent n epoch target writes) = 3 ∷ to_be_bytes w64 n ++ to_be_bytes w32 epoch ++ target_bytes target ++ writes_bytes writes

-- a body: the frame's epoch, the count of its events in eight bytes, and the events
unfoldable pub body_bytes : Frame → List ℕ
body_bytes f = to_be_bytes w32 f.epoch ++ to_be_bytes w64 (length f.events) ++ flat_map event_bytes f.events

-- an epoch that a log may name
abbrev pub IsLogEpoch : ℕ → Type 0
IsLogEpoch epoch = (0 < epoch) × (epoch ≤ last_durable)

-- a value within its limit, or a deletion
abbrev pub IsPut : Option (List ℕ) → Type 0
IsPut None = Unit {0}
IsPut (Some value) = IsValue value

-- A write within its limits.
pub record IsWithin (w : Write) : Type 0 where
  pub table : IsTable w.table
  pub key : IsKey w.key
  pub put : IsPut w.put

-- Writes within their limits: no more than a transaction may make, each within its own, in strictly rising order of table and key.
pub record AreWithin (ws : List Write) : Type 0 where
  pub count : length ws ≤ most_operations
  pub each : AllByRecursion IsWithin ws
  pub rising : IsRising cell_of_write ws

-- there is no target, or it is a number of a transaction
abbrev pub IsTarget : Option ℕ → Type 0
IsTarget None = Unit {0}
IsTarget (Some target) = IsTx target

-- an event within its limits
abbrev pub IsEvent : LogEvent → Type 0
IsEvent (SlotEvent n) = IsTx n
IsEvent (ShortEvent n epoch writes) = IsTx n × IsLogEpoch epoch × AreWithin writes
IsEvent (BatchEvent n epoch target writes) = IsTx n × IsLogEpoch epoch × IsTarget target × AreWithin writes

-- What a frame may hold: events within their limits, whose epochs never fall and are at most the frame's.
pub record IsFrame (f : Frame) : Type 0 where
  pub epoch : IsLogEpoch f.epoch
  pub count : length f.events < 2 ^ 64
  pub events : AllByRecursion IsEvent f.events
  pub rising : NeverFalls f
  pub closed : IsClosed f

-- The bytes are the body of the frame: its spelling, and there is no other one.
pub record Spells (body : List ℕ) (f : Frame) : Type 0 where
  pub frame : IsFrame f
  pub bytes : body ≡ body_bytes f
