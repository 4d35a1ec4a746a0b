-- Which lines are answered so far. Every other one is answered `later`, without effect.
use Rattle.std.specs.Prelude.{Bool, true, false}
use Rattle.ltx_model.specs.declared.commands.Verb.{Verb}
use Rattle.ltx_model.specs.declared.commands.Verb.TheVariants as verbs
use Rattle.ltx_model.specs.declared.commands.Command.{Command}
use Rattle.ltx_model.specs.declared.commands.Command.TheVariants as commands
use Rattle.ltx_model.specs.declared.commands.Line.{Line}
use Rattle.ltx_model.specs.declared.commands.Line.TheVariants as lines
use Rattle.ltx_model.specs.States.{State}

-- all that a session asks, the next epoch, and a flush
abbrev pub built_command : State → Command → Bool
built_command s commands.Epoch = true
built_command s commands.Flush = true
built_command s commands.Prune = false
built_command s (commands.Ask session verb) = true

-- the lines that are answered so far: every malformed one among them
abbrev pub built : State → Line → Bool
built s (lines.Good command) = built_command s command
built s (lines.Bad cause) = true

-- what takes no memory: an abort, and the next epoch
abbrev pub is_abort : Verb → Bool
is_abort verbs.Short = false
is_abort (verbs.Long writes reads) = false
is_abort (verbs.Do op) = false
is_abort verbs.Commit = false
is_abort verbs.Abort = true

abbrev pub takes_no_memory : Command → Bool
takes_no_memory commands.Epoch = true
takes_no_memory commands.Flush = false
takes_no_memory commands.Prune = false
takes_no_memory (commands.Ask session verb) = is_abort verb
