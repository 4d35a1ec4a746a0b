-- What a line asks, and that an entry has a reply.
use Rattle.std.specs.Prelude.{◌≡◌, ◌⊎◌, ℕ, Bool, false, Some}
use Rattle.ltx_model.specs.declared.commands.Op.{Op}
use Rattle.ltx_model.specs.declared.commands.Verb.TheVariants as verbs
use Rattle.ltx_model.specs.declared.commands.Command.TheVariants as commands
use Rattle.ltx_model.specs.declared.commands.Line.{Line}
use Rattle.ltx_model.specs.declared.commands.Line.TheVariants as lines
use Rattle.ltx_model.specs.declared.replies.Entry.{Entry}
use Rattle.ltx_model.specs.declared.replies.Reply.{Reply}
use Rattle.ltx_model.specs.declared.replies.Reply.TheVariants as replies
use Rattle.ltx_model.specs.States.{Active, State, active_of}

-- The entry's line asks an operation of the open transaction o of its session.
pub record AsksOperation (s : State) (entry : Entry) (o : Active) (op : Op) : Type 0 where
  pub session : ℕ
  pub line : entry.line ≡ lines.Good (commands.Ask session (verbs.Do op))
  pub opened : active_of s session ≡ Some o

-- The entry has this reply. (Only a line that is not built yet is answered `later`.)
abbrev pub IsAnswered : (State → Line → Bool) → State → Entry → Reply → Type 0
IsAnswered built s entry reply = (entry.reply ≡ reply) ⊎ ((built s entry.line ≡ false) × (entry.reply ≡ replies.Later))
