-- Which lines the program answers so far. Every other one is answered `later`, without effect.
use Rattle.std.specs.Prelude.{Bool, false}
use Rattle.ltx_model.specs.declared.commands.Command.{Command}
use Rattle.ltx_model.specs.declared.commands.Command.TheVariants as commands
use Rattle.ltx_model.specs.declared.commands.Line.{Line}
use Rattle.ltx_model.specs.declared.commands.Line.TheVariants as lines
use Rattle.ltx_model.specs.States.{State}
use Rattle.ltx_core.specs.Built as core

-- those that the core answers, but for a flush, which needs a log
abbrev pub built_command : State → Command → Bool
built_command s commands.Epoch = core.built_command s commands.Epoch
built_command s commands.Flush = false
built_command s commands.Prune = core.built_command s commands.Prune
built_command s (commands.Ask session verb) = core.built_command s (commands.Ask session verb)

abbrev pub built : State → Line → Bool
built s (lines.Good command) = built_command s command
built s (lines.Bad cause) = core.built s (lines.Bad cause)
