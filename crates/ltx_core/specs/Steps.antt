-- A step of a core by a command.
use Rattle.std.specs.Prelude.{◌≡◌, List, [], ◌∷◌, ◌++◌}
use Rattle.ltx_model.specs.declared.commands.Command.{Command}
use Rattle.ltx_model.specs.declared.commands.Line.{Line}
use Rattle.ltx_model.specs.declared.commands.Line.TheVariants.{Good}
use Rattle.ltx_model.specs.declared.replies.Entry.{Entry}
use Rattle.ltx_model.specs.declared.replies.Reply.{Reply}
use Rattle.ltx_model.specs.States.{Base, IsSound}
use Rattle.ltx_model.specs.Histories.{state}
use Rattle.ltx_model.specs.Answers.{staged, IsLegalWith}
use Rattle.ltx_core.specs.Built.{built}
use Rattle.ltx_core.specs.Views.{CoreView, IsWithin}
use Rattle.ltx_core.specs.Logged.{IsLogged}
use Rattle.ltx_core.specs.Stands.{StandsAt, StandsFor, IsStanding}

-- The reply is the answer of the state that the base and the history lead to, and the core stands at the state of the history with this entry.
pub record IsStep (new : CoreView) (base : Base) (history : List Entry) (line : Line) (reply : Reply) : Type 0 where
  pub reply_is : reply ≡ staged built (state base history) line
  pub stands : StandsAt new (state base (history ++ record { line = line; reply = reply } ∷ []))

-- so it is for each sound base and legal history at whose state the core stood
abbrev pub Steps : CoreView → Command → Reply → CoreView → Type 0
Steps old command reply new = (base : Base) (history : List Entry) → IsSound base → IsLegalWith built base history → StandsAt old (state base history)
    → IsStep new base history (Good command) reply

-- what is kept for the log is that of the history with this entry
abbrev pub Logs : CoreView → Command → Reply → CoreView → Type 0
Logs old command reply new = (base : Base) (history : List Entry) → IsSound base → IsLegalWith built base history → StandsFor old base history
    → IsLogged new.log (state base (history ++ record { line = Good command; reply = reply } ∷ []))

-- The command is answered: for each sound base and legal history that the core stood for the reply is the answer, and the core stands for
-- the history with this entry.
pub record IsAnswered (old : CoreView) (command : Command) (reply : Reply) (new : CoreView) : Type 0 where
  pub steps : Steps old command reply new
  pub logs : Logs old command reply new

-- what holds of every core: its numbers are within their bounds, and it stands at the state of some legal history
pub record IsCore (core : CoreView) : Type 0 where
  pub within : IsWithin core
  pub standing : IsStanding core
