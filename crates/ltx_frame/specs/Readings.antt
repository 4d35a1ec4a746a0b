-- Reading a body from its front on. Each reading gives what stands there and the bytes behind it.
use Rattle.std.specs.Prelude.{ℕ, zero, suc, ◌&&◌, ◌==◌, nat_lt, nat_le, if◌then◌else◌, List, [], ◌∷◌, length, take, drop, Option, Some, None}
use Rattle.std.specs.Int.{Width, w16, w32, w64, byte_len, from_be_bytes}
use Rattle.ltx_model.specs.declared.writes.Write.{Write}
use Rattle.ltx_model.specs.Limits.{table_count, last_number, key_limit, value_limit}
use Rattle.ltx_model.specs.Frames.{LogEvent, SlotEvent, ShortEvent, BatchEvent, Frame}

infixl 10 ◌>>=◌
-- what follows a step that gave something
abbrev pub ◌>>=◌ : {A B : Type 0} → Option A → (A → Option B) → Option B
(Some x) >>= f = f x
None >>= f = None

-- ---- numbers and byte strings

abbrev pub byte_at : List ℕ → Option (ℕ × List ℕ)
byte_at [] = None
byte_at (b ∷ bytes) = Some (b, bytes)

abbrev pub number_at : Width → List ℕ → Option (ℕ × List ℕ)
number_at w bytes = if nat_lt (length bytes) (byte_len w) then None else Some (from_be_bytes w (take (byte_len w) bytes), drop (byte_len w) bytes)

-- so many bytes
abbrev pub part_at : ℕ → List ℕ → Option (List ℕ × List ℕ)
part_at n bytes = if nat_lt (length bytes) n then None else Some (take n bytes, drop n bytes)

-- so many items, each as it is read
unfoldable pub items_at : {X : Type 0} → (List ℕ → Option (X × List ℕ)) → ℕ → List ℕ → Option (List X × List ℕ)
items_at read zero bytes = Some ([], bytes)
items_at read (suc n) bytes = do
  first ← read bytes
  others ← items_at read n first.1
  Some (first.0 ∷ others.0, others.1)

-- a number that a transaction may have
abbrev pub as_tx : ℕ → Option ℕ
as_tx n = if nat_lt 0 n && nat_le n last_number then Some n else None

-- a number that a table may have
abbrev pub as_table : ℕ → Option ℕ
as_table n = if nat_lt n table_count then Some n else None

unfoldable pub key_at : List ℕ → Option (List ℕ × List ℕ)
key_at bytes = do
  n ← byte_at bytes
  key ← part_at n.0 n.1
  if nat_lt 0 (length key.0) && nat_le (length key.0) key_limit then Some (key.0, key.1) else None

unfoldable pub value_at : List ℕ → Option (List ℕ × List ℕ)
value_at bytes = do
  n ← number_at w16 bytes
  value ← part_at n.0 n.1
  if nat_le (length value.0) value_limit then Some (value.0, value.1) else None

-- ---- writes

-- a put behind its first byte
unfoldable pub put_at : List ℕ → Option (Write × List ℕ)
put_at bytes = do
  n ← byte_at bytes
  table ← as_table n.0
  key ← key_at n.1
  value ← value_at key.1
  Some (record { table = table; key = key.0; put = Some value.0 }, value.1)

-- a deletion behind its first byte
unfoldable pub del_at : List ℕ → Option (Write × List ℕ)
del_at bytes = do
  n ← byte_at bytes
  table ← as_table n.0
  key ← key_at n.1
  Some (record { table = table; key = key.0; put = None }, key.1)

unfoldable pub write_at : List ℕ → Option (Write × List ℕ)
write_at [] = None
write_at (zero ∷ bytes) = put_at bytes
write_at (suc zero ∷ bytes) = del_at bytes
write_at (suc (suc b) ∷ bytes) = None

-- writes behind their count
unfoldable pub writes_at : List ℕ → Option (List Write × List ℕ)
writes_at bytes = do
  n ← number_at w32 bytes
  items_at write_at n.0 n.1

-- ---- events

-- a slot behind its first byte
unfoldable pub slot_at : List ℕ → Option (LogEvent × List ℕ)
slot_at bytes = do
  n ← number_at w64 bytes
  tx ← as_tx n.0
  Some (SlotEvent tx, n.1)

-- a short behind its first byte
unfoldable pub short_at : List ℕ → Option (LogEvent × List ℕ)
short_at bytes = do
  n ← number_at w64 bytes
  tx ← as_tx n.0
  epoch ← number_at w32 n.1
  writes ← writes_at epoch.1
  Some (ShortEvent tx epoch.0 writes.0, writes.1)

-- the target of a batch, where it was forwarded
unfoldable pub target_at : List ℕ → Option (Option ℕ × List ℕ)
target_at [] = None
target_at (zero ∷ bytes) = Some (None, bytes)
target_at (suc zero ∷ bytes) = do
  n ← number_at w64 bytes
  tx ← as_tx n.0
  Some (Some tx, n.1)
target_at (suc (suc b) ∷ bytes) = None

-- a batch behind its first byte
unfoldable pub batch_at : List ℕ → Option (LogEvent × List ℕ)
batch_at bytes = do
  n ← number_at w64 bytes
  tx ← as_tx n.0
  epoch ← number_at w32 n.1
  target ← target_at epoch.1
  writes ← writes_at target.1
  Some (BatchEvent tx epoch.0 target.0 writes.0, writes.1)

unfoldable pub event_at : List ℕ → Option (LogEvent × List ℕ)
event_at [] = None
event_at (zero ∷ bytes) = None
event_at (suc zero ∷ bytes) = slot_at bytes
event_at (suc (suc zero) ∷ bytes) = short_at bytes
event_at (suc (suc (suc zero)) ∷ bytes) = batch_at bytes
event_at (suc (suc (suc (suc b))) ∷ bytes) = None

-- a whole body
unfoldable pub body_at : List ℕ → Option Frame
body_at bytes = do
  epoch ← number_at w32 bytes
  count ← number_at w64 epoch.1
  events ← items_at event_at count.0 count.1
  if length events.1 == 0 then Some (record { epoch = epoch.0; events = events.0 }) else None
