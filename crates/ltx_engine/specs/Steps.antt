-- What a line does, and what holds of every engine.
use Rattle.std.specs.Prelude.{◌≡◌, false, List, [], ◌∷◌, ◌++◌}
use Rattle.ltx_model.specs.declared.commands.Line.{Line}
use Rattle.ltx_model.specs.declared.replies.Entry.{Entry}
use Rattle.ltx_model.specs.declared.replies.Reply.{Reply}
use Rattle.ltx_model.specs.States.{Base, IsSound}
use Rattle.ltx_model.specs.Histories.{state}
use Rattle.ltx_model.specs.Answers.{staged, IsLegalWith}
use Rattle.ltx_core.specs.Built.{built}
use Rattle.ltx_log.specs.Images.{IsStill, EachSince}
use Rattle.ltx_log.specs.Running.{EachNow}
use Rattle.ltx_engine.specs.Views.{EngineView}
use Rattle.ltx_engine.specs.Stands.{StandsFor}
use Rattle.ltx_engine.specs.Images.{RecoversThrough, RecoversEither}

-- the history with this entry
abbrev pub with_entry : List Entry → Line → Reply → List Entry
with_entry history line reply = history ++ record { line = line; reply = reply } ∷ []

-- For each sound base and legal history that the engine stood for, the reply is the answer of the state that they lead to.
abbrev pub Replies : EngineView → Line → Reply → Type 0
Replies old line reply = (base : Base) (history : List Entry) → IsSound base → IsLegalWith built base history → StandsFor old base history → reply ≡ staged built (state base history) line

-- And it then stands for the history with this entry.
abbrev pub Goes : EngineView → Line → Reply → EngineView → Type 0
Goes old line reply new = (base : Base) (history : List Entry) → IsSound base → IsLegalWith built base history → StandsFor old base history → StandsFor new base (with_entry history line reply)

-- Each image since the call began, of a log that was not closed, recovers the rows through the epoch that was durable before, or through
-- the last closed one.
abbrev pub LeavesEither : EngineView → EngineView → Type 0
LeavesEither old new = old.log.closed ≡ false → (base : Base) (history : List Entry) → IsSound base → IsLegalWith built base history → StandsFor old base history
    → EachSince (λ bytes image. RecoversEither (state base history) image) old.log.content old.log.crashes new.log.crashes

-- After the reply each image now recovers the rows through the epoch that is durable then.
abbrev pub LeavesDurable : EngineView → Line → Reply → EngineView → Type 0
LeavesDurable old line reply new = old.log.closed ≡ false → (base : Base) (history : List Entry) → IsSound base → IsLegalWith built base history → StandsFor old base history
    → EachNow (λ bytes image. RecoversThrough (state base (with_entry history line reply)) (state base (with_entry history line reply)).durable image) new.log.content new.log.crashes

-- What holds of every engine: it stands for some sound base and some legal history from it, the last frame's epoch is the durable one, and
-- nothing is pending on the disk as long as no append met a fault of it.
pub record IsRunning (engine : EngineView) : Type 0 where
  pub base : Base
  pub history : List Entry
  pub sound : IsSound base
  pub legal : IsLegalWith built base history
  pub stands : StandsFor engine base history
  pub last : engine.log.last ≡ (state base history).durable
  pub still : engine.log.closed ≡ false → IsStill engine.log.content engine.log.crashes
