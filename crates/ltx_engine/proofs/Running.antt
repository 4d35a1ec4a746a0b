-- A line that leaves the log: what is said of the engine then.
use Rattle.std.proofs.Common.{◌≡◌, ℕ, ◌-◌, ◌<◌, false, List, refl, sym, ap, ◌∙◌, subst, arith}
use Rattle.ltx_model.specs.declared.commands.Bad.{Bad}
use Rattle.ltx_model.specs.declared.commands.Command.TheVariants as commands
use Rattle.ltx_model.specs.declared.commands.Line.{Line}
use Rattle.ltx_model.specs.declared.commands.Line.TheVariants as lines
use Rattle.ltx_model.specs.declared.replies.Entry.{Entry}
use Rattle.ltx_model.specs.declared.replies.Reply.{Reply}
use Rattle.ltx_model.specs.declared.replies.Reply.TheVariants as replies
use Rattle.ltx_model.specs.States.{Base, IsSound, State, first_state}
use Rattle.ltx_model.specs.Histories.{after, state}
use Rattle.ltx_model.specs.Answers.{answer, staged, IsLegalWith}
use Rattle.ltx_model.proofs.OneMore.{state-push, legal-push}
use Rattle.ltx_laws.proofs.DurableReplies.{durable_closed}
use Rattle.ltx_core.specs.Built.{built}
use Rattle.ltx_core.specs.Stands as core_stands
use Rattle.ltx_log.specs.Running.{LogState}
use Rattle.ltx_log.specs.Images.{IsStill}
use Rattle.ltx_engine.specs.Views.{EngineView, is_flush}
use Rattle.ltx_engine.specs.Stands.{StandsFor}
use Rattle.ltx_engine.specs.Steps.{with_entry, Replies, Goes, LeavesEither, LeavesDurable, IsRunning}
use Rattle.ltx_engine.proofs.Quiet.{IsQuiet, entry_quiet}
use Rattle.ltx_engine.proofs.Answers.{answer_idle, after_idle}
use Rattle.ltx_engine.proofs.Standing.{stands_on, quiet_still, stands_same, images_recover}
use Rattle.ltx_engine.proofs.Since.{unchanged_since}
use Rattle.ltx_engine.proofs.Cores.{core_epoch, core_durable, core_quiet}

-- the history with an answered line is legal
pub legal_on : (base : Base) (history : List Entry) (line : Line) (reply : Reply) → IsLegalWith built base history → reply ≡ staged built (state base history) line → IsLegalWith built base (with_entry history line reply)
legal_on base history line reply legal is = legal-push built (first_state base) history (record { line = line; reply = reply }) legal is

-- there is a closed epoch
pub ahead : (engine : EngineView) → IsRunning engine → engine.core.log.durable < engine.core.counters.epoch
ahead engine r =
    let s : State = state r.base r.history in
    let closed : s.durable < s.epoch = durable_closed built r.base r.history r.sound r.legal in
    let epoch : engine.core.counters.epoch ≡ s.epoch = core_epoch engine.core r.base r.history r.stands.core in
    let durable : engine.core.log.durable ≡ s.durable = core_durable engine.core r.base r.history r.stands.core in
    omega (arith, closed, epoch, durable)

-- ---- a log that is as it was

pub either_same : (old new : EngineView) → IsRunning old → new.log ≡ old.log → LeavesEither old new
either_same old new r log = subst (λ (l : LogState). LeavesEither old (record { core = new.core; log = l })) (sym log)
    (λ runs base history sound legal stands. unchanged_since built base history sound legal old.log.gate old.log.last old.log.content old.log.crashes (stands.frames runs) (r.still runs))

pub durable_now : (old new : EngineView) (line : Line) (reply : Reply) → Replies old line reply → Goes old line reply new → (old.log.closed ≡ false → new.log.closed ≡ false)
    → (new.log.closed ≡ false → IsStill new.log.content new.log.crashes) → LeavesDurable old line reply new
durable_now old new line reply answers goes stays still = λ runs base history sound legal stands.
    images_recover built new base (with_entry history line reply) sound (legal_on base history line reply legal (answers base history sound legal stands)) (goes base history sound legal stands) (stays runs) (still (stays runs))

still_there : (old new : EngineView) → IsRunning old → new.log ≡ old.log → new.log.closed ≡ false → IsStill new.log.content new.log.crashes
still_there old new r log = subst (λ (l : LogState). l.closed ≡ false → IsStill l.content l.crashes) (sym log) r.still

pub durable_same : (old new : EngineView) (line : Line) (reply : Reply) → IsRunning old → new.log ≡ old.log → Replies old line reply → Goes old line reply new → LeavesDurable old line reply new
durable_same old new line reply r log answers goes = durable_now old new line reply answers goes (λ runs. ap (λ (l : LogState). l.closed) log ∙ runs) (still_there old new r log)

-- an engine still runs for the same history
pub runs_same : (old new : EngineView) → new.log ≡ old.log → ((base : Base) (history : List Entry) → core_stands.StandsFor old.core base history → core_stands.StandsFor new.core base history) → IsRunning old → IsRunning new
runs_same old new log core r = record {
  base = r.base;
  history = r.history;
  sound = r.sound;
  legal = r.legal;
  stands = stands_same old new r.base r.history log (core r.base r.history r.stands.core) r.stands;
  last = ap (λ (l : LogState). l.last) log ∙ r.last;
  still = still_there old new r log;
}

-- ---- a line that is no flush

module _ (old new : EngineView) (line : Line) (reply : Reply) (isnt : is_flush line ≡ false) (log : new.log ≡ old.log)
    (answers : (base : Base) (history : List Entry) → IsSound base → IsLegalWith built base history → core_stands.StandsFor old.core base history → reply ≡ staged built (state base history) line)
    (core : (base : Base) (history : List Entry) → IsSound base → IsLegalWith built base history → core_stands.StandsFor old.core base history → core_stands.StandsFor new.core base (with_entry history line reply)) where
  pub core_replies : Replies old line reply
  core_replies = λ base history sound legal stands. answers base history sound legal stands.core

  quiet_at : (base : Base) (history : List Entry) → IsSound base → IsLegalWith built base history → StandsFor old base history → IsQuiet (state base history) (after (state base history) (record { line = line; reply = reply }))
  quiet_at base history sound legal stands = entry_quiet (state base history) built (record { line = line; reply = reply }) (answers base history sound legal stands.core) isnt

  pub core_goes : Goes old line reply new
  core_goes = λ base history sound legal stands.
      stands_on old new base history (record { line = line; reply = reply }) (quiet_at base history sound legal stands) log (core base history sound legal stands.core) stands

  pub core_runs : IsRunning old → IsRunning new
  core_runs r =
      let entry : Entry = record { line = line; reply = reply } in
      record {
        base = r.base;
        history = with_entry r.history line reply;
        sound = r.sound;
        legal = legal_on r.base r.history line reply r.legal (core_replies r.base r.history r.sound r.legal r.stands);
        stands = core_goes r.base r.history r.sound r.legal r.stands;
        last = ap (λ (l : LogState). l.last) log ∙ r.last ∙ sym (quiet_at r.base r.history r.sound r.legal r.stands).durable ∙ ap (λ (s : State). s.durable) (sym (state-push (first_state r.base) r.history entry));
        still = still_there old new r log;
      }

-- ---- a flush with nothing to write

module _ (engine : EngineView) (d : ℕ) (is : d ≡ engine.core.log.durable) (last : engine.core.counters.epoch - 1 ≡ d) where
  there : (base : Base) (history : List Entry) → StandsFor engine base history → d ≡ (state base history).durable
  there base history stands = is ∙ core_durable engine.core base history stands.core

  closed : (base : Base) (history : List Entry) → StandsFor engine base history → (state base history).epoch - 1 ≡ (state base history).durable
  closed base history stands = ap (λ (e : ℕ). e - 1) (sym (core_epoch engine.core base history stands.core)) ∙ last ∙ there base history stands

  pub idle_replies : Replies engine (lines.Good commands.Flush) (replies.Durable d)
  idle_replies = λ base history sound legal stands. ap replies.Durable (there base history stands) ∙ sym (answer_idle (state base history) (closed base history stands))

  pub idle_goes : Goes engine (lines.Good commands.Flush) (replies.Durable d) engine
  idle_goes = λ base history sound legal stands.
      let s : State = state base history in
      let entry : Entry = record { line = lines.Good commands.Flush; reply = replies.Durable d } in
      let same : after s entry ≡ s = ap (λ (n : ℕ). after s (record { line = lines.Good commands.Flush; reply = replies.Durable n })) (there base history stands) ∙ after_idle s in
      stands_on engine engine base history entry (quiet_still s (after s entry) same) refl (core_quiet engine.core base history stands.core entry same) stands

-- ---- a malformed line

module _ (engine : EngineView) (cause : Bad) where
  abbrev malformed : Entry
  malformed = record { line = lines.Bad cause; reply = replies.Bad cause }

  after_bad : (s : State) → after s malformed ≡ s
  unfolding after
  after_bad s = refl

  answer_bad : (s : State) → answer s (lines.Bad cause) ≡ replies.Bad cause
  unfolding answer
  answer_bad s = refl

  pub bad_replies : Replies engine (lines.Bad cause) (replies.Bad cause)
  bad_replies = λ base history sound legal stands. sym (answer_bad (state base history))

  pub bad_goes : Goes engine (lines.Bad cause) (replies.Bad cause) engine
  bad_goes = λ base history sound legal stands.
      let s : State = state base history in
      stands_on engine engine base history malformed (quiet_still s (after s malformed) (after_bad s)) refl (core_quiet engine.core base history stands.core malformed (after_bad s)) stands
