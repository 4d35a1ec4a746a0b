use Rattle.std.proofs.Common.{◌≡◌, ℕ, ◌≤◌, List, ◌++◌, length, codes}
use Rattle.ltx_model.specs.declared.commands.Command.{Command}
use Rattle.ltx_script.specs.Commands.{IsCommand, command_text}
use Rattle.ltx_check.proofs.entries.cut_command.Given as goal

abbrev pub invariant-loop-at : goal.invariant-loop-at
invariant-loop-at l = (command : Command) (reply : List ℕ) → IsCommand command → l.line ≡ command_text command ++ codes " => " ++ reply → l.at ≤ length (command_text command)
