-- A flush that must write: what is said of the engine after the append, by what the append answers.
use Rattle.std.specs.Prelude.{IfSome, IfNone, IsSomeAnd}
use Rattle.std.proofs.Common.{◌≡◌, ℕ, ◌+◌, ◌-◌, ◌<◌, ◌≤◌, true, false, List, [], ◌∷◌, ◌++◌, None, refl, sym, ap, ◌∙◌, subst, arith}
use Rattle.ltx_model.specs.declared.commands.Command.TheVariants as commands
use Rattle.ltx_model.specs.declared.commands.Line.TheVariants as lines
use Rattle.ltx_model.specs.declared.replies.Entry.{Entry}
use Rattle.ltx_model.specs.declared.replies.Reply.TheVariants as replies
use Rattle.ltx_model.specs.States.{Base, State, first_state}
use Rattle.ltx_model.specs.Frames.{Frame, sealed}
use Rattle.ltx_model.specs.Histories.{after, state}
use Rattle.ltx_model.specs.Contents.{next_gate}
use Rattle.ltx_model.proofs.OneMore.{state-push}
use Rattle.ltx_laws.proofs.LawfulFrames.{sealed_epoch}
use Rattle.ltx_core.specs.Built.{built}
use Rattle.ltx_core.specs.Stands as core_stands
use Rattle.ltx_log.specs.Running.{LogState, HasRoom, AddsFrame, MayAddFrame}
use Rattle.ltx_log.specs.Images.{IsStill, EachSince}
use Rattle.ltx_engine.specs.Views.{EngineView, MustWrite}
use Rattle.ltx_engine.specs.Stands.{StandsFor}
use Rattle.ltx_engine.specs.Steps.{with_entry, Replies, Goes, LeavesEither, LeavesDurable, IsRunning}
use Rattle.ltx_engine.proofs.Answers.{answer_written, answer_full, after_written, after_full}
use Rattle.ltx_engine.proofs.Standing.{stands_on, quiet_still, stands_flushed, stands_closed}
use Rattle.ltx_engine.proofs.Since.{append_since}
use Rattle.ltx_engine.proofs.Cores.{core_epoch, must_there, core_quiet}
use Rattle.ltx_engine.proofs.Running.{legal_on, durable_now}

-- the frame is the one that a flush must write
abbrev pub IsSealed : EngineView → Frame → Type 0
IsSealed engine f = (base : Base) (history : List Entry) → core_stands.StandsFor engine.core base history → f ≡ sealed (state base history)

-- What an append that succeeded says of the log.
pub record HasAppended (old new : LogState) (f : Frame) : Type 0 where
  pub was : old.closed ≡ false
  pub runs : new.closed ≡ false
  pub room : HasRoom old.gate f
  pub gate : new.gate ≡ next_gate old.gate f
  pub last : new.last ≡ f.epoch
  pub frames : IfSome old.content (λ bytes. IsSomeAnd new.content (AddsFrame old.gate old.last f bytes))
  pub untold : IfNone old.content (new.content ≡ None)
  pub still : IsStill new.content new.crashes

-- the core after a flush
abbrev pub IsFlushed : EngineView → EngineView → Type 0
IsFlushed old new = (base : Base) (history : List Entry) → core_stands.StandsFor old.core base history
    → core_stands.StandsFor new.core base (with_entry history (lines.Good commands.Flush) (replies.Durable (old.core.counters.epoch - 1)))

module _ (old : EngineView) (f : Frame) (must : MustWrite old) (is : IsSealed old f) where
  must_at : (base : Base) (history : List Entry) → StandsFor old base history → (state base history).durable + 1 < (state base history).epoch
  must_at base history stands = must_there old.core base history stands.core must

  epoch_at : (base : Base) (history : List Entry) → StandsFor old base history → f.epoch ≡ (state base history).epoch - 1
  epoch_at base history stands = ap (λ (g : Frame). g.epoch) (is base history stands.core) ∙ sealed_epoch (state base history)

  room_at : (base : Base) (history : List Entry) → StandsFor old base history → HasRoom old.log.gate f → HasRoom (state base history).gate (sealed (state base history))
  room_at base history stands room = subst (λ (g : ℕ). HasRoom g (sealed (state base history))) stands.gate (subst (HasRoom old.log.gate) (is base history stands.core) room)

  full_at : (base : Base) (history : List Entry) → StandsFor old base history → (HasRoom old.log.gate f → ⊥) → HasRoom (state base history).gate (sealed (state base history)) → ⊥
  full_at base history stands full room = full (subst (HasRoom old.log.gate) (sym (is base history stands.core)) (subst (λ (g : ℕ). HasRoom g (sealed (state base history))) (sym stands.gate) room))

  -- the frame may be appended
  pub may_append : IsRunning old → old.log.last + 1 ≤ f.epoch
  may_append r =
      let ahead : (state r.base r.history).durable + 1 < (state r.base r.history).epoch = must_at r.base r.history r.stands in
      omega (arith, ahead, r.last, epoch_at r.base r.history r.stands)

  -- each image since the append began
  pub append_leaves : (new : EngineView) → HasRoom old.log.gate f → EachSince (MayAddFrame old.log.gate old.log.last f) old.log.content old.log.crashes new.log.crashes → LeavesEither old new
  append_leaves new room since = λ runs base history sound legal stands.
      append_since built base history sound legal (λ s. refl) (must_at base history stands) (room_at base history stands room) old.log.gate old.log.last f old.log.content old.log.crashes new.log.crashes
      (is base history stands.core) (stands.frames runs) since

  -- the log has no room
  pub full_replies : (HasRoom old.log.gate f → ⊥) → Replies old (lines.Good commands.Flush) replies.LimitLog
  full_replies full = λ base history sound legal stands. sym (answer_full (state base history) (must_at base history stands) (full_at base history stands full))

  pub full_goes : (new : EngineView) → new.core ≡ old.core → new.log ≡ old.log → Goes old (lines.Good commands.Flush) replies.LimitLog new
  full_goes new core log = λ base history sound legal stands.
      let s : State = state base history in
      let entry : Entry = record { line = lines.Good commands.Flush; reply = replies.LimitLog } in
      stands_on old new base history entry (quiet_still s (after s entry) (after_full s)) log
      (subst (λ c. core_stands.StandsFor c base (history ++ entry ∷ [])) (sym core) (core_quiet old.core base history stands.core entry (after_full s))) stands

  -- the frame is appended
  module _ (new : EngineView) (appended : HasAppended old.log new.log f) (core : IsFlushed old new) where
    pub written_replies : Replies old (lines.Good commands.Flush) (replies.Durable f.epoch)
    written_replies = λ base history sound legal stands.
        ap replies.Durable (epoch_at base history stands) ∙ sym (answer_written (state base history) (must_at base history stands) (room_at base history stands appended.room))

    pub written_goes : Goes old (lines.Good commands.Flush) (replies.Durable f.epoch) new
    written_goes = λ base history sound legal stands.
        let s : State = state base history in
        let there : core_stands.StandsFor new.core base (with_entry history (lines.Good commands.Flush) (replies.Durable (s.epoch - 1))) =
        subst (λ (e : ℕ). core_stands.StandsFor new.core base (with_entry history (lines.Good commands.Flush) (replies.Durable (e - 1)))) (core_epoch old.core base history stands.core) (core base history stands.core) in
        subst (λ (e : ℕ). StandsFor new base (with_entry history (lines.Good commands.Flush) (replies.Durable e))) (sym (epoch_at base history stands))
        (stands_flushed old new base history f (must_at base history stands) (is base history stands.core) appended.was appended.gate appended.last appended.frames appended.untold there stands)

    pub written_durable : LeavesDurable old (lines.Good commands.Flush) (replies.Durable f.epoch) new
    written_durable = durable_now old new (lines.Good commands.Flush) (replies.Durable f.epoch) written_replies written_goes (λ runs. appended.runs) (λ runs. appended.still)

    pub written_runs : IsRunning old → IsRunning new
    written_runs r =
        let s : State = state r.base r.history in
        let entry : Entry = record { line = lines.Good commands.Flush; reply = replies.Durable f.epoch } in
        let same : after s entry ≡ after s (record { line = lines.Good commands.Flush; reply = replies.Durable (s.epoch - 1) }) =
        ap (λ (e : ℕ). after s (record { line = lines.Good commands.Flush; reply = replies.Durable e })) (epoch_at r.base r.history r.stands) in
        record {
          base = r.base;
          history = with_entry r.history (lines.Good commands.Flush) (replies.Durable f.epoch);
          sound = r.sound;
          legal = legal_on r.base r.history (lines.Good commands.Flush) (replies.Durable f.epoch) r.legal (written_replies r.base r.history r.sound r.legal r.stands);
          stands = written_goes r.base r.history r.sound r.legal r.stands;
          last = appended.last ∙ epoch_at r.base r.history r.stands ∙ ap (λ (x : State). x.durable) (sym (state-push (first_state r.base) r.history entry ∙ same ∙ after_written s (must_at r.base r.history r.stands)));
          still = λ runs. appended.still;
        }

-- the disk failed
module _ (old new : EngineView) (core : new.core ≡ old.core) (gate : new.log.gate ≡ old.log.gate) (last : new.log.last ≡ old.log.last) (closed : new.log.closed ≡ true) where
  pub failed_stands : (base : Base) (history : List Entry) → StandsFor old base history → StandsFor new base history
  failed_stands base history stands = stands_closed old new base history core gate closed stands

  pub failed_runs : IsRunning old → IsRunning new
  failed_runs r = record {
    base = r.base;
    history = r.history;
    sound = r.sound;
    legal = r.legal;
    stands = failed_stands r.base r.history r.stands;
    last = last ∙ r.last;
    still = λ runs. absurd (let no : ⊥ = cc in no);
  }
