-- What an engine shows: what its core keeps, and its log.
use Rattle.std.specs.Prelude.{Bool, true, false, ◌+◌, ◌<◌}
use Rattle.ltx_model.specs.declared.commands.Command.TheVariants as commands
use Rattle.ltx_model.specs.declared.commands.Line.{Line}
use Rattle.ltx_model.specs.declared.commands.Line.TheVariants as lines
use Rattle.ltx_core.specs.Built.{takes_no_memory}
use Rattle.ltx_core.specs.Views.{CoreView}
use Rattle.ltx_log.specs.Running.{LogState}

pub record EngineView : Type 0 where
  pub core : CoreView
  pub log : LogState

-- the line asks a flush
abbrev pub is_flush : Line → Bool
is_flush (lines.Good commands.Epoch) = false
is_flush (lines.Good commands.Flush) = true
is_flush (lines.Good commands.Prune) = false
is_flush (lines.Good (commands.Ask session verb)) = false
is_flush (lines.Bad cause) = false

-- the epochs below the present one are not all durable, so that a flush must write a frame
abbrev pub MustWrite : EngineView → Type 0
MustWrite engine = engine.core.log.durable + 1 < engine.core.counters.epoch

-- the line takes no memory: an abort, the next epoch, or a malformed line
abbrev pub needs_no_memory : Line → Bool
needs_no_memory (lines.Good command) = takes_no_memory command
needs_no_memory (lines.Bad cause) = true
