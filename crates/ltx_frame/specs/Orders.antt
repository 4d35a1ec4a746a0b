-- The orders of a frame, from each event and each write to the next one.
use Rattle.std.specs.Prelude.{ℕ, ◌≤◌, List, [], ◌∷◌}
use Rattle.std.specs.List.{AllByRecursion}
use Rattle.ltx_model.specs.declared.writes.Write.{Write}
use Rattle.ltx_model.specs.Keys.{IsRising}
use Rattle.ltx_model.specs.Operations.{cell_of_write}
use Rattle.ltx_model.specs.Frames.{LogEvent, SlotEvent, ShortEvent, BatchEvent}
use Rattle.ltx_model.specs.Spellings.{IsWithin, IsEvent}

-- Writes within their limits, in strictly rising order of table and key.
pub record AreRisingWrites (ws : List Write) : Type 0 where
  pub each : AllByRecursion IsWithin ws
  pub rising : IsRising cell_of_write ws

-- the epoch of the last commit after an event
abbrev pub epoch_past : ℕ → LogEvent → ℕ
epoch_past last (SlotEvent n) = last
epoch_past last (ShortEvent n epoch writes) = epoch
epoch_past last (BatchEvent n epoch target writes) = epoch

-- Behind a commit of an epoch, a frame of the highest epoch may hold the event.
pub record StepsOn (last highest : ℕ) (e : LogEvent) : Type 0 where
  pub within : IsEvent e
  pub climbs : last ≤ epoch_past last e
  pub closed : epoch_past last e ≤ highest

-- it may hold each of the events behind those before it
abbrev pub AreInOrder : ℕ → ℕ → List LogEvent → Type 0
AreInOrder last highest [] = Unit {0}
AreInOrder last highest (e ∷ es) = StepsOn last highest e × AreInOrder (epoch_past last e) highest es
