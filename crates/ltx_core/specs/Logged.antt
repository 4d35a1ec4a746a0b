-- What a core keeps for the log is what the state has.
use Rattle.std.specs.Prelude.{◌≡◌, ℕ, ◌==◌, List, [], ◌∷◌, ◌++◌, filter}
use Rattle.ltx_model.specs.Agenda.{Timed}
use Rattle.ltx_model.specs.States.{State}
use Rattle.ltx_model.specs.Frames.{LogEvent, sealed}
use Rattle.ltx_model.specs.Logs.{events_of}
use Rattle.ltx_core.specs.Views.{LogView}

-- the events of the moves of an epoch, in time
abbrev pub events_at : ℕ → List Timed → List LogEvent
events_at epoch moves = events_of (filter (λ m. m.epoch == epoch) moves)

-- The durable epoch is that of the state, the events of closed epochs are those of the frame that a flush would write, and the others are
-- those of the present epoch.
pub record IsLogged (log : LogView) (s : State) : Type 0 where
  pub durable : log.durable ≡ s.durable
  pub closed : log.events.closed ≡ (sealed s).events
  pub present : log.events.present ≡ events_at s.epoch s.moves

-- the same is kept for the log; there may be other room
pub record IsSameLog (old new : LogView) : Type 0 where
  pub durable : new.durable ≡ old.durable
  pub closed : new.events.closed ≡ old.events.closed
  pub present : new.events.present ≡ old.events.present

-- One event more of the present epoch.
pub record HasLogged (old new : LogView) (event : LogEvent) : Type 0 where
  pub durable : new.durable ≡ old.durable
  pub closed : new.events.closed ≡ old.events.closed
  pub present : new.events.present ≡ old.events.present ++ event ∷ []
