-- What a core keeps: the counters, the agenda, the store, the batches that have begun, each open transaction with its notes and its own writes, what is recorded of commits, and what the log does not have yet.
use Rattle.std.specs.Prelude.{ℕ, ◌<◌, ◌+◌, ◌-◌, ◌≤◌, not, List, length, filter, Option}
use Rattle.std.specs.List.{AllByRecursion}
use Rattle.ltx_model.specs.Limits.{last_epoch, last_number}
use Rattle.ltx_model.specs.Holders.{Holder}
use Rattle.ltx_model.specs.Played.{IsCommitUpTo}
use Rattle.ltx_model.specs.Records.{Records}
use Rattle.ltx_events.specs.Kept.{Unsealed}
use Rattle.ltx_open.specs.Views.{OpenView}
use Rattle.ltx_forward.specs.declared.decide.Live.{Live}
use Rattle.ltx_store.specs.Kept.{Kept, AreUpTo}

-- the epoch and the last number given
pub record Counters : Type 0 where
  pub epoch : ℕ
  pub last : ℕ

-- What is kept for the log: the durable epoch, and the events that are not durable yet, those of closed epochs and those of the present one.
pub record LogView : Type 0 where
  pub durable : ℕ
  pub events : Unsealed

-- The list has the numbers of the agenda, and room for so many more. The number of commits is the newest mark; that of the last
-- commit of a batch is 0 where there was none. The batches that have begun stand with what they declared for writing, and once more
-- with their areas. The open transactions stand at the numbers of their sessions.
pub record CoreView : Type 0 where
  pub counters : Counters
  pub list : List ℕ
  pub room : ℕ
  pub commits : ℕ
  pub batch : ℕ
  pub store : List Kept
  pub preserve : List Holder
  pub opens : List (Option OpenView)
  pub records : Records
  pub areas : List Live
  pub log : LogView

-- how many batches are pending: so many slots the next epoch appends
abbrev pub pending : List Holder → ℕ
pending holders = length (filter (λ h. not h.live) holders)

-- The numbers of the events: there is room for so many slots, no commit of a closed epoch is of the present epoch or a later one, and
-- none of the present epoch is of a later one.
pub record AreEventsWithin (epoch slots : ℕ) (events : Unsealed) : Type 0 where
  pub room : slots ≤ events.room
  pub closed : AllByRecursion (IsCommitUpTo (epoch - 1)) events.closed
  pub present : AllByRecursion (IsCommitUpTo epoch) events.present
  pub last : events.last ≤ epoch

-- what holds of every core by its numbers: no version has a mark above the number of commits, there is room for the slots of the
-- next epoch, and the numbers are within their bounds
pub record IsWithin (core : CoreView) : Type 0 where
  pub marks : AreUpTo core.commits core.store
  pub room : pending core.preserve ≤ core.room
  pub listed : length core.list + core.room < 18446744073709551616
  pub epoch_bound : core.counters.epoch ≤ last_epoch
  pub epoch_positive : 0 < core.counters.epoch
  pub last_bound : core.counters.last ≤ last_number
  pub log : AreEventsWithin core.counters.epoch (pending core.preserve) core.log.events
