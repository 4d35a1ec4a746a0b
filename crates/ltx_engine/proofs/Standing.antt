-- An engine stands for a history with one entry more, or for the same one after a fault.
use Rattle.std.specs.Prelude.{IfSome, IfNone, IsSomeAnd}
use Rattle.std.proofs.Common.{◌≡◌, ℕ, ◌+◌, ◌-◌, ◌<◌, Bool, true, false, List, [], ◌∷◌, ◌++◌, Option, Some, None, sym, ap, ◌∙◌, subst}
use Rattle.ltx_model.specs.declared.commands.Line.{Line}
use Rattle.ltx_model.specs.declared.replies.Entry.{Entry}
use Rattle.ltx_model.specs.declared.replies.Reply.TheVariants as replies
use Rattle.ltx_model.specs.States.{Base, IsSound, State, first_state}
use Rattle.ltx_model.specs.Histories.{after, state}
use Rattle.ltx_model.specs.Frames.{Frame, sealed, body_length}
use Rattle.ltx_model.specs.Answers.{IsLegalWith}
use Rattle.ltx_model.specs.Contents.{next_gate}
use Rattle.ltx_model.specs.Disks.{Crashes}
use Rattle.ltx_model.proofs.BodyLengths.{gate_counted}
use Rattle.ltx_model.proofs.OneMore.{state-push}
use Rattle.ltx_log.specs.Running.{LogState, AddsFrame, EachNow}
use Rattle.ltx_log.specs.Images.{IsStill}
use Rattle.ltx_log.proofs.Images.{settled_image}
use Rattle.ltx_log.proofs.Moments.{told_map}
use Rattle.ltx_core.specs.Stands as core_stands
use Rattle.ltx_engine.specs.Views.{EngineView}
use Rattle.ltx_engine.specs.Stands.{StandsFor, IsWritten}
use Rattle.ltx_engine.specs.Images.{RecoversThrough}
use Rattle.ltx_engine.proofs.Quiet.{IsQuiet}
use Rattle.ltx_engine.proofs.Answers.{flushed, after_written}
use Rattle.ltx_engine.proofs.Written.{written_recovers, written_same, written_added}

-- an entry that leaves the durable epoch and the place of the gate, and a log that is as it was
pub stands_on : (old new : EngineView) (base : Base) (history : List Entry) (entry : Entry) → IsQuiet (state base history) (after (state base history) entry) → new.log ≡ old.log
    → core_stands.StandsFor new.core base (history ++ entry ∷ []) → StandsFor old base history → StandsFor new base (history ++ entry ∷ [])
stands_on old new base history entry quiet log core stands = record {
  core = core;
  gate = ap (λ (l : LogState). l.gate) log ∙ stands.gate ∙ sym quiet.gate ∙ ap (λ (s : State). s.gate) (sym (state-push (first_state base) history entry));
  frames = subst HasFrames (sym log) (λ runs. told_map (IsWritten base history old.log.gate old.log.last) (IsWritten base (history ++ entry ∷ []) old.log.gate old.log.last) old.log.content
      (λ bytes written. written_same base history entry old.log.gate old.log.last bytes quiet.durable written) (stands.frames runs));
} where
  HasFrames : LogState → Type 0
  HasFrames log = log.closed ≡ false → IfSome log.content (IsWritten base (history ++ entry ∷ []) log.gate log.last)

-- nothing of the log changes where the state stays
pub quiet_still : (s after : State) → after ≡ s → IsQuiet s after
quiet_still s after same = record { durable = ap (λ (x : State). x.durable) same; gate = ap (λ (x : State). x.gate) same }

frames_told : (base : Base) (history : List Entry) (must : (state base history).durable + 1 < (state base history).epoch) (gate last next : ℕ) (f : Frame) (o p : Option (List ℕ)) → f ≡ sealed (state base history)
    → next ≡ next_gate gate f → IfSome o (IsWritten base history gate last) → IfSome o (λ bytes. IsSomeAnd p (AddsFrame gate last f bytes)) → IfNone o (p ≡ None)
    → IfSome p (IsWritten base (history ++ flushed (replies.Durable ((state base history).epoch - 1)) ∷ []) next f.epoch)
frames_told base history must gate last next f None p is to written adds untold = subst (λ q. IfSome q (IsWritten base (history ++ flushed (replies.Durable ((state base history).epoch - 1)) ∷ []) next f.epoch)) (sym untold) tt
frames_told base history must gate last next f (Some old) None is to written adds untold = tt
frames_told base history must gate last next f (Some old) (Some new) is to written adds untold =
    subst (λ (g : ℕ). IsWritten base (history ++ flushed (replies.Durable ((state base history).epoch - 1)) ∷ []) g f.epoch new) (sym to) (written_added base history must gate last f old new is adds written)

-- the frame of the closed epochs is in the log
pub stands_flushed : (old new : EngineView) (base : Base) (history : List Entry) (f : Frame) (must : (state base history).durable + 1 < (state base history).epoch) → f ≡ sealed (state base history)
    → old.log.closed ≡ false → new.log.gate ≡ next_gate old.log.gate f → new.log.last ≡ f.epoch
    → IfSome old.log.content (λ bytes. IsSomeAnd new.log.content (AddsFrame old.log.gate old.log.last f bytes)) → IfNone old.log.content (new.log.content ≡ None)
    → core_stands.StandsFor new.core base (history ++ flushed (replies.Durable ((state base history).epoch - 1)) ∷ []) → StandsFor old base history
    → StandsFor new base (history ++ flushed (replies.Durable ((state base history).epoch - 1)) ∷ [])
stands_flushed old new base history f must is runs gate last adds untold core stands =
    let s : State = state base history in
    let entry : Entry = flushed (replies.Durable (s.epoch - 1)) in
    let counted : next_gate old.log.gate f ≡ s.gate + 9 + body_length (sealed s) = ap (λ g. next_gate old.log.gate g) is ∙ ap (λ n. next_gate n (sealed s)) stands.gate ∙ gate_counted s.gate (sealed s) in
    record {
      core = core;
      gate = gate ∙ counted ∙ ap (λ (x : State). x.gate) (sym (state-push (first_state base) history entry ∙ after_written s must));
      frames = λ running. subst (λ (l : ℕ). IfSome new.log.content (IsWritten base (history ++ entry ∷ []) new.log.gate l)) (sym last)
          (frames_told base history must old.log.gate old.log.last new.log.gate f old.log.content new.log.content is gate (stands.frames runs) adds untold);
    }

-- a log that was closed
pub stands_closed : (old new : EngineView) (base : Base) (history : List Entry) → new.core ≡ old.core → new.log.gate ≡ old.log.gate → new.log.closed ≡ true → StandsFor old base history → StandsFor new base history
stands_closed old new base history core gate closed stands = record {
  core = subst (λ c. core_stands.StandsFor c base history) (sym core) stands.core;
  gate = gate ∙ stands.gate;
  frames = λ runs. absurd (let no : ⊥ = cc in no);
}

-- what is as it was stands for the same
pub stands_same : (old new : EngineView) (base : Base) (history : List Entry) → new.log ≡ old.log → core_stands.StandsFor new.core base history → StandsFor old base history → StandsFor new base history
stands_same old new base history log core stands = record {
  core = core;
  gate = ap (λ (l : LogState). l.gate) log ∙ stands.gate;
  frames = subst (λ (l : LogState). l.closed ≡ false → IfSome l.content (IsWritten base history l.gate l.last)) (sym log) stands.frames;
}

-- each image now recovers the rows through the durable epoch
pub images_recover : (built : State → Line → Bool) (engine : EngineView) (base : Base) (history : List Entry) → IsSound base → IsLegalWith built base history → StandsFor engine base history
    → engine.log.closed ≡ false → IsStill engine.log.content engine.log.crashes → EachNow (λ bytes image. RecoversThrough (state base history) (state base history).durable image) engine.log.content engine.log.crashes
images_recover built engine base history sound legal stands runs = by_told engine.log.content engine.log.crashes (stands.frames runs) where
  by_told : (o : Option (List ℕ)) (x : Option Crashes) → IfSome o (IsWritten base history engine.log.gate engine.log.last) → IsStill o x
      → EachNow (λ bytes image. RecoversThrough (state base history) (state base history).durable image) o x
  by_told None x written still = tt
  by_told (Some bytes) None written still = tt
  by_told (Some bytes) (Some told) written still = λ image left.
      subst (RecoversThrough (state base history) (state base history).durable) (sym (settled_image bytes image told.now still left)) (written_recovers built base history sound legal engine.log.gate engine.log.last bytes written)
