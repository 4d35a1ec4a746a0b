-- What is kept beside the batches: the least holder of each table, as tests tell it.
use Rattle.std.specs.Prelude.{◌≡◌, ℕ, ◌≤◌, ◌<◌, ◌&&◌, nat_le, nat_lt, Bool, true, false, if◌then◌else◌, List, Option, Some, None, slice_index_or}
use Rattle.std.specs.List.{list_any, AllByRecursion}
use Rattle.ltx_model.specs.Holders.{Holder, is_holder, holds_table, IsHeldBy}
use Rattle.ltx_model.specs.Tables.{has_table}

-- a batch with this number holds the table, and no batch with a lesser number does
pub record IsLeast (hs : List Holder) (table n : ℕ) : Type 0 where
  pub held : list_any (λ h. is_holder n h && holds_table table h) hs ≡ true
  pub no_less : AllByRecursion (λ h. holds_table table h ≡ true → n ≤ h.number) hs

-- the least holder of a table, or none where it has none
abbrev pub IsKept : List Holder → ℕ → Option ℕ → Type 0
IsKept hs table None = list_any (holds_table table) hs ≡ false
IsKept hs table (Some n) = IsLeast hs table n

-- the least holder of each of the 64 tables
abbrev pub AreKept : List Holder → List (Option ℕ) → Type 0
AreKept hs least = (table : ℕ) → table < 64 → IsKept hs table (slice_index_or least table None)

-- the lesser of two numbers, where there are two
abbrev pub lesser_of : Option ℕ → ℕ → ℕ
lesser_of None tx = tx
lesser_of (Some other) tx = if nat_le other tx then other else tx

-- the number of a batch, where there is one and it is pending
abbrev pub pending_number : Option Holder → Option ℕ
pending_number None = None
pending_number (Some h) = if h.live then None else Some h.number

-- a live batch with a number below this one
abbrev pub is_live_below : ℕ → Holder → Bool
is_live_below n h = h.live && nat_lt h.number n

-- The table is the least one of a set that somebody holds, and n its least holder.
pub record IsLeastHeldIn (hs : List Holder) (tables table n : ℕ) : Type 0 where
  pub within : table < 64
  pub has : has_table tables table ≡ true
  pub held : IsHeldBy hs table (Some n)
  pub least : (t : ℕ) → t < table → has_table tables t ≡ true → IsHeldBy hs t None
