-- What a log of the base's frames and the history's recovers, and a log with one frame more.
use Rattle.std.specs.Prelude.{max, if◌then◌else◌}
use Rattle.std.proofs.Common.{◌≡◌, inl, inr, ⊎_elim, ℕ, ◌+◌, ◌-◌, ◌<◌, Bool, true, false, List, [], ◌∷◌, ◌++◌, sym, ap, ◌∙◌, subst, append_assoc, append-nil}
use Rattle.std.proofs.lemmas.List.{map-append}
use Rattle.ltx_model.specs.declared.commands.Command.TheVariants as commands
use Rattle.ltx_model.specs.declared.commands.Line.{Line}
use Rattle.ltx_model.specs.declared.commands.Line.TheVariants as lines
use Rattle.ltx_model.specs.declared.replies.Entry.{Entry}
use Rattle.ltx_model.specs.declared.replies.Reply.TheVariants as replies
use Rattle.ltx_model.specs.States.{Base, IsSound, State, first_state, rows_through}
use Rattle.ltx_model.specs.Histories.{durable_if, after, state}
use Rattle.ltx_model.specs.Frames.{Frame, sealed}
use Rattle.ltx_model.specs.Logs.{frames_of, events_in}
use Rattle.ltx_model.specs.Answers.{answer, staged, IsLegalWith}
use Rattle.ltx_model.specs.Contents.{Placed, frames_in, next_gate}
use Rattle.ltx_model.specs.Recovery.{AreLawfulFrames, greatest_number, recovered}
use Rattle.ltx_model.proofs.OneMore.{state-push, legal-push}
use Rattle.ltx_log.specs.Running.{with_frame, HasRoom, KeepsFrames, AddsFrame, MayAddFrame}
use Rattle.ltx_laws.proofs.FrameFronts.{last_epoch_durable}
use Rattle.ltx_laws.proofs.EarlierFrames.{all_lawful, all_recovered}
use Rattle.ltx_engine.specs.Stands.{AreFramesOf, IsWritten}
use Rattle.ltx_engine.specs.Images.{RecoversThrough, RecoversEither}
use Rattle.ltx_engine.proofs.Frames.{frames_same, frames_more}
use Rattle.ltx_engine.proofs.Answers.{flushed, answer_written, after_written, above_written}

-- the frames are those of the base, and then those of the history
frames_split : (base : Base) (history : List Entry) (frames : List Placed) → (are : AreFramesOf base history frames) → frames_in frames ≡ frames_in are.earlier ++ frames_of base history
frames_split base history frames are =
    ap frames_in are.parts ∙ map-append (λ (p : Placed). p.frame) are.earlier are.later ∙ ap (λ fs. frames_in are.earlier ++ fs) are.written

module _ (built : State → Line → Bool) (base : Base) (history : List Entry) (sound : IsSound base) (legal : IsLegalWith built base history) where
  abbrev s : State
  s = state base history

  abbrev greatest : ℕ
  greatest = max base.last (greatest_number (events_in (frames_of base history)))

  given : (earlier : List Frame) → recovered earlier base.gate ≡ base → (gate : ℕ)
      → recovered (earlier ++ frames_of base history) gate ≡ record { rows = rows_through s s.durable; durable = s.durable; last = greatest; gate = gate }
  given earlier gives gate =
      all_recovered built base history sound legal earlier gives (frames_of base history) [] (sym (append-nil (frames_of base history))) gate
      ∙ ap (λ (d : ℕ). base_at d gate) (last_epoch_durable built base history sound legal) where
        base_at : ℕ → ℕ → Base
        base_at d gate = record { rows = rows_through s d; durable = d; last = greatest; gate = gate }

  -- it recovers the rows through the durable epoch
  pub written_recovers : (gate last : ℕ) (bytes : List ℕ) → IsWritten base history gate last bytes → RecoversThrough s s.durable bytes
  written_recovers gate last bytes w =
      let parts : frames_in w.frames ≡ frames_in w.are.earlier ++ frames_of base history = frames_split base history w.frames w.are in
      let lawful : AreLawfulFrames 0 [] (frames_in w.are.earlier ++ frames_of base history) =
      all_lawful built base history sound legal (frames_in w.are.earlier) w.are.given (frames_of base history) [] (sym (append-nil (frames_of base history))) w.are.lawful in
      record {
        last = greatest;
        gate = gate;
        recovered = inr (record {
          frames = w.frames;
          gate = gate;
          log = w.log.log;
          lawful = subst (AreLawfulFrames 0 []) (sym parts) lawful;
          base_is = sym (ap (λ fs. recovered fs gate) parts ∙ given (frames_in w.are.earlier) w.are.given gate);
        });
      }

-- an entry that writes no frame
pub written_same : (base : Base) (history : List Entry) (entry : Entry) (gate last : ℕ) (bytes : List ℕ) → (after (state base history) entry).durable ≡ (state base history).durable
    → IsWritten base history gate last bytes → IsWritten base (history ++ entry ∷ []) gate last bytes
written_same base history entry gate last bytes same w = record {
  frames = w.frames;
  log = w.log;
  are = record {
    earlier = w.are.earlier;
    later = w.are.later;
    parts = w.are.parts;
    lawful = w.are.lawful;
    given = w.are.given;
    written = w.are.written ∙ sym (frames_same base history entry same);
  };
}

-- an image with the frames from before
pub written_kept : (base : Base) (history : List Entry) (gate last : ℕ) (old new : List ℕ) → KeepsFrames gate last old new → IsWritten base history gate last old → IsWritten base history gate last new
written_kept base history gate last old new keeps w = record { frames = w.frames; log = keeps w.frames w.log; are = w.are }

-- the frame that a flush must write
module _ (base : Base) (history : List Entry) (must : (state base history).durable + 1 < (state base history).epoch) where
  abbrev now : State
  now = state base history

  abbrev entry : Entry
  entry = flushed (replies.Durable (now.epoch - 1))

  later_state : state base (history ++ entry ∷ []) ≡ durable_if true now (now.epoch - 1)
  later_state = state-push (first_state base) history entry ∙ after_written now must

  pub written_added : (gate last : ℕ) (f : Frame) (old new : List ℕ) → f ≡ sealed now → AddsFrame gate last f old new → IsWritten base history gate last old → IsWritten base (history ++ entry ∷ []) (next_gate gate f) f.epoch new
  written_added gate last f old new is adds w =
      let placed : Placed = record { at = gate; frame = f } in
      record {
        frames = with_frame w.frames gate f;
        log = adds w.frames w.log;
        are = record {
          earlier = w.are.earlier;
          later = w.are.later ++ placed ∷ [];
          parts = ap (λ ps. ps ++ placed ∷ []) w.are.parts ∙ append_assoc w.are.earlier w.are.later (placed ∷ []);
          lawful = w.are.lawful;
          given = w.are.given;
          written = map-append (λ (p : Placed). p.frame) w.are.later (placed ∷ []) ∙ ap (λ fs. fs ++ f ∷ []) w.are.written ∙ ap (λ g. frames_of base history ++ g ∷ []) is ∙ sym (frames_more base history entry (above_written now must));
        };
      }

  module _ (built : State → Line → Bool) (is_built : (s : State) → built s (lines.Good commands.Flush) ≡ true) (sound : IsSound base) (legal : IsLegalWith built base history) (room : HasRoom now.gate (sealed now)) where
    replied : replies.Durable (now.epoch - 1) ≡ staged built now (lines.Good commands.Flush)
    replied = sym (by_test (built now (lines.Good commands.Flush)) (is_built now)) where
      by_test : (b : Bool) → b ≡ true → (if b then answer now (lines.Good commands.Flush) else replies.Later) ≡ replies.Durable (now.epoch - 1)
      by_test true is = answer_written now must room
      by_test false is = absurd (let no : ⊥ = cc in no)

    -- it is legal to be answered that the last closed epoch is durable
    pub legal_written : IsLegalWith built base (history ++ entry ∷ [])
    legal_written = legal-push built (first_state base) history entry legal replied

    written_later : (gate last : ℕ) (bytes : List ℕ) → IsWritten base (history ++ entry ∷ []) gate last bytes → RecoversThrough now (now.epoch - 1) bytes
    written_later gate last bytes w =
        let r : RecoversThrough (durable_if true now (now.epoch - 1)) (now.epoch - 1) bytes =
        subst (λ (x : State). RecoversThrough x x.durable bytes) later_state (written_recovers built base (history ++ entry ∷ []) sound legal_written gate last bytes w) in
        record { last = r.last; gate = r.gate; recovered = r.recovered }

    -- an image with the frames from before, or with this one too
    pub may_recover : (gate last : ℕ) (f : Frame) (old new : List ℕ) → f ≡ sealed now → MayAddFrame gate last f old new → IsWritten base history gate last old → RecoversEither now new
    may_recover gate last f old new is may w = ⊎_elim
        (λ keeps. inl (written_recovers built base history sound legal gate last new (written_kept base history gate last old new keeps w)))
        (λ adds. inr (written_later (next_gate gate f) f.epoch new (written_added gate last f old new is adds w)))
        may
