-- What is kept of the events that are not durable yet.
use Rattle.std.specs.Prelude.{ℕ, ◌+◌, ◌<◌, ◌≤◌, ◌^◌, List, length, take, drop, filter_map}
use Rattle.std.specs.List.{AllByRecursion}
use Rattle.ltx_model.specs.declared.writes.Write.{Write}
use Rattle.ltx_model.specs.Lists.{IsPairwise}
use Rattle.ltx_model.specs.Limits.{most_operations, IsTx}
use Rattle.ltx_model.specs.Keys.{IsRising}
use Rattle.ltx_model.specs.Operations.{cell_of_write}
use Rattle.ltx_model.specs.Frames.{LogEvent, SlotEvent, ShortEvent, BatchEvent}
use Rattle.ltx_model.specs.Played.{epoch_of, IsCommitUpTo}
use Rattle.ltx_model.specs.Spellings.{IsTarget, IsWithin}
use Rattle.ltx_frame.specs.declared.event.Event.{Event}
use Rattle.ltx_frame.specs.Events.{events_of}

-- The events of closed epochs and those of the present one, each in time, how many more can be kept without taking memory, and the epoch of the last commit, 0 where there was none.
pub record Unsealed : Type 0 where
  pub closed : List LogEvent
  pub present : List LogEvent
  pub room : ℕ
  pub last : ℕ

-- Of this epoch there may be a commit with these writes: no more than a transaction may make, in strictly rising order of table and key.
pub record IsCommit (epoch : ℕ) (writes : List Write) : Type 0 where
  pub from_one : 1 ≤ epoch
  pub count : length writes ≤ most_operations
  pub rising : IsRising cell_of_write writes

-- an event that may be kept
abbrev pub IsKept : LogEvent → Type 0
IsKept (SlotEvent n) = Unit {0}
IsKept (ShortEvent n epoch writes) = IsCommit epoch writes
IsKept (BatchEvent n epoch target writes) = IsCommit epoch writes

-- Events may be kept, and their epochs never fall and are at most the last one.
pub record AreInTime (last : ℕ) (es : List LogEvent) : Type 0 where
  pub each : AllByRecursion IsKept es
  pub rising : IsPairwise (λ a b. a ≤ b) (filter_map epoch_of es)
  pub closed : AllByRecursion (IsCommitUpTo last) es

-- the numbers, the target and the writes of an event are within the limits of their types
abbrev pub IsTyped : LogEvent → Type 0
IsTyped (SlotEvent n) = IsTx n
IsTyped (ShortEvent n epoch writes) = IsTx n × AllByRecursion IsWithin writes
IsTyped (BatchEvent n epoch target writes) = IsTx n × IsTarget target × AllByRecursion IsWithin writes

-- So many of the events are of closed epochs. All are in time, and there is room for more.
pub record AreUnsealed (events : List Event) (capacity closed room last : ℕ) : Type 0 where
  pub within : closed ≤ length events
  pub spare : length events + room ≤ capacity
  pub fits : length events + room < 2 ^ 64
  pub time : AreInTime last (events_of events)

-- what clauses see of events of which so many are of closed epochs
abbrev pub unsealed_of : List Event → ℕ → ℕ → ℕ → Unsealed
unsealed_of events closed room last = record { closed = events_of (take closed events); present = events_of (drop closed events); room = room; last = last }
