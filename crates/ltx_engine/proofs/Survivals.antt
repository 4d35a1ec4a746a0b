-- What a crash may leave of a run, and that it stays so when the run goes on.
use Rattle.std.specs.Prelude.{IfSome, IfNone}
use Rattle.std.proofs.Common.{◌≡◌, inl, inr, ℕ, ◌-◌, ◌<◌, ◌≤◌, Bool, true, false, List, [], ◌∷◌, ◌++◌, Option, Some, None, refl, sym, ap, ◌∙◌, subst, arith, Contains}
use Rattle.ltx_model.specs.declared.commands.Line.{Line}
use Rattle.ltx_model.specs.declared.replies.Entry.{Entry}
use Rattle.ltx_model.specs.declared.replies.Reply.{Reply}
use Rattle.ltx_model.specs.declared.rows.StoredRow.{StoredRow}
use Rattle.ltx_model.specs.States.{Base, IsSound, State, first_state, rows_through}
use Rattle.ltx_model.specs.Histories.{state}
use Rattle.ltx_model.specs.Answers.{IsLegalWith}
use Rattle.ltx_model.specs.Contents.{frames_in}
use Rattle.ltx_model.specs.Disks.{Crashes}
use Rattle.ltx_model.specs.Recovery.{IsRecovered, IsRecoveredLog, recovered}
use Rattle.ltx_model.proofs.OneMore.{legal-none, legal-parts}
use Rattle.ltx_laws.specs.Acknowledged.{AreAcknowledgedUpTo}
use Rattle.ltx_laws.proofs.DropsFrames.{base_through}
use Rattle.ltx_laws.proofs.DurableReplies.{durable_closed}
use Rattle.ltx_laws.proofs.ClosedEpochs.{rows_over, durable_least, epoch_over, acknowledged_up_to}
use Rattle.ltx_core.specs.Built.{built}
use Rattle.ltx_log.specs.Images.{StaysTold, EachSince}
use Rattle.ltx_log.specs.Running.{LogState, EachNow}
use Rattle.ltx_log.proofs.OneLog.{log_once}
use Rattle.ltx_log.proofs.Moments.{told_map, since_as}
use Rattle.ltx_log.proofs.Joins.{since_join, now_join, since_now}
use Rattle.ltx_engine.specs.Views.{EngineView}
use Rattle.ltx_engine.specs.Stands.{StandsFor}
use Rattle.ltx_engine.specs.Images.{RecoversThrough, RecoversEither, RecoversAlike, IsThrough, HoldsAcknowledged}
use Rattle.ltx_engine.specs.Crashes.{Survives, Holds}
use Rattle.ltx_engine.specs.Steps.{with_entry, LeavesEither, LeavesDurable}
use Rattle.ltx_engine.proofs.Recoveries.{blank_no_log}

-- ---- one base

log_gives_one : (bytes : List ℕ) (a b : Base) → IsRecoveredLog bytes a → IsRecoveredLog bytes b → a ≡ b
log_gives_one bytes a b first second =
    let same = log_once bytes first.frames second.frames first.gate second.gate first.log second.log in
    first.base_is ∙ (λ i. recovered (frames_in (same.0 i)) (same.1 i)) ∙ sym second.base_is

pub recovered_once : (bytes : List ℕ) (a b : Base) → IsRecovered bytes a → IsRecovered bytes b → a ≡ b
recovered_once bytes a b (inl first) (inl second) = first.1 ∙ sym second.1
recovered_once bytes a b (inl first) (inr second) = absurd (blank_no_log bytes first.0 second.log.log)
recovered_once bytes a b (inr first) (inl second) = absurd (blank_no_log bytes second.0 first.log.log)
recovered_once bytes a b (inr first) (inr second) = log_gives_one bytes a b first second

-- ---- one image

module _ (built : State → Line → Bool) (base : Base) (history : List Entry) (sound : IsSound base) (legal : IsLegalWith built base history) (bytes : List ℕ) where
  abbrev s : State
  s = state base history

  least : base.durable ≤ s.durable
  least = durable_least built base history sound legal

  ahead : s.durable < s.epoch
  ahead = durable_closed built base history sound legal

  pub through_base : IsRecovered bytes base → IsThrough base history bytes
  through_base gives =
      let same : base ≡ record { rows = rows_through s base.durable; durable = base.durable; last = base.last; gate = base.gate } =
      λ i. record { rows = sym (base_through built base history sound legal) i; durable = base.durable; last = base.last; gate = base.gate } in
      record {
        epoch = base.durable;
        least = omega arith;
        closed = omega (arith, least, ahead);
        recovers = record { last = base.last; gate = base.gate; recovered = subst (IsRecovered bytes) same gives };
      }

  pub through_durable : RecoversThrough s s.durable bytes → IsThrough base history bytes
  through_durable recovers = record { epoch = s.durable; least = least; closed = ahead; recovers = recovers }

  through_last : RecoversThrough s (s.epoch - 1) bytes → IsThrough base history bytes
  through_last recovers = record { epoch = s.epoch - 1; least = omega (arith, least, ahead); closed = omega (arith, ahead); recovers = recovers }

  pub through_either : RecoversEither s bytes → IsThrough base history bytes
  through_either (inl recovers) = through_durable recovers
  through_either (inr recovers) = through_last recovers

  acknowledged : AreAcknowledgedUpTo s.durable history
  acknowledged = acknowledged_up_to built base history sound legal

  pub holds_durable : RecoversThrough s s.durable bytes → HoldsAcknowledged base history bytes
  unfolding through_durable
  holds_durable recovers = record { through = through_durable recovers; acknowledged = acknowledged }

  pub holds_either : RecoversEither s bytes → HoldsAcknowledged base history bytes
  unfolding through_last
  holds_either (inl recovers) = holds_durable recovers
  holds_either (inr recovers) = record {
    through = through_last recovers;
    acknowledged = λ entry here d printed. let under : d ≤ s.durable = acknowledged entry here d printed in omega (arith, under, ahead);
  }

none_there : (entry : Entry) → Contains [] entry → ⊥
none_there entry here = omega (arith, here.1)

pub holds_base : (base : Base) → IsSound base → (bytes : List ℕ) → IsRecovered bytes base → HoldsAcknowledged base [] bytes
holds_base base sound bytes gives = record {
  through = through_base built base [] sound (legal-none built (first_state base)) bytes gives;
  acknowledged = λ entry here. absurd (none_there entry here);
}

module _ (built : State → Line → Bool) (base : Base) (history more : List Entry) (sound : IsSound base) (legal : IsLegalWith built base (history ++ more)) (bytes : List ℕ) where
  pub through_longer : IsThrough base history bytes → IsThrough base (history ++ more) bytes
  through_longer t =
      let there : rows_through (state base (history ++ more)) t.epoch ≡ rows_through (state base history) t.epoch = rows_over built base history more sound legal t.epoch t.closed in
      record {
        epoch = t.epoch;
        least = t.least;
        closed = omega (arith, t.closed, epoch_over built base history more sound legal);
        recovers = record {
          last = t.recovers.last;
          gate = t.recovers.gate;
          recovered = subst (λ (rows : List StoredRow). IsRecovered bytes (record { rows = rows; durable = t.epoch; last = t.recovers.last; gate = t.recovers.gate })) (sym there) t.recovers.recovered;
        };
      }

  pub either_longer : RecoversEither (state base history) bytes → IsThrough base (history ++ more) bytes
  either_longer recovers = through_longer (through_either built base history sound (legal-parts built (first_state base) history more legal).0 bytes recovers)

-- ---- an opening

pub opening_since : (base : Base) → IsSound base → (content : Option (List ℕ)) (old new : Option Crashes) → IfSome content (λ bytes. IsRecovered bytes base)
    → EachSince RecoversAlike content old new → Survives base [] content old new
opening_since base sound content old new gives since = since_as RecoversAlike (λ bytes image. IsThrough base [] image) content old new
    (told_map (λ bytes. IsRecovered bytes base) (λ bytes. (image : List ℕ) → RecoversAlike bytes image → IsThrough base [] image) content
    (λ bytes recovers image alike. through_base built base [] sound (legal-none built (first_state base)) image (alike base recovers)) gives)
    since

pub opening_now : (base : Base) → IsSound base → (content : Option (List ℕ)) (new : Option Crashes) → EachNow (λ bytes image. IsRecovered image base) content new → Holds base [] content new
opening_now base sound None new each = tt
opening_now base sound (Some bytes) None each = tt
opening_now base sound (Some bytes) (Some told) each = λ image left. holds_base base sound image (each image left)

-- ---- an answer

-- a log that is as it was, or what a call leaves on an open one
module _ (old new : EngineView) (base : Base) (history : List Entry) (sound : IsSound base) (legal : IsLegalWith built base history) (stands : StandsFor old base history)
    (leaves : LeavesEither old new) (stays : old.log.closed ≡ true → new.log ≡ old.log) (content : Option (List ℕ)) (told : StaysTold content old.log.content) where
  crashes_same : old.log.closed ≡ true → new.log.crashes ≡ old.log.crashes
  crashes_same shut = ap (λ (l : LogState). l.crashes) (stays shut)

  pub fault_since : (before : Option Crashes) → Survives base history content before old.log.crashes → Survives base history content before new.log.crashes
  fault_since before since = by_case old.log.closed refl where
    by_case : (b : Bool) → old.log.closed ≡ b → Survives base history content before new.log.crashes
    by_case true shut = subst (Survives base history content before) (sym (crashes_same shut)) since
    by_case false runs = since_join (λ bytes image. IsThrough base history image) (λ bytes image. RecoversEither (state base history) image) (λ bytes image. IsThrough base history image)
        content old.log.content before old.log.crashes new.log.crashes
        (λ bytes image through. through) (λ bytes mid image recovers. through_either built base history sound legal image recovers)
        told since (leaves runs base history sound legal stands)

  pub fault_now : IfNone old.log.crashes (new.log.crashes ≡ None) → Holds base history content old.log.crashes → Holds base history content new.log.crashes
  fault_now secret holds = by_case old.log.closed refl where
    by_case : (b : Bool) → old.log.closed ≡ b → Holds base history content new.log.crashes
    by_case true shut = subst (Holds base history content) (sym (crashes_same shut)) holds
    by_case false runs = now_join (λ bytes image. RecoversEither (state base history) image) (λ bytes image. HoldsAcknowledged base history image) content old.log.content new.log.crashes
        (λ bytes mid image recovers. holds_either built base history sound legal image recovers) told
        (since_now (λ bytes image. RecoversEither (state base history) image) old.log.content old.log.crashes new.log.crashes secret (leaves runs base history sound legal stands))

pub longer_since : (base : Base) (history more : List Entry) → IsSound base → IsLegalWith built base (history ++ more) → (content : Option (List ℕ)) (old new : Option Crashes)
    → Survives base history content old new → Survives base (history ++ more) content old new
longer_since base history more sound legal content old new since = since_as (λ bytes image. IsThrough base history image) (λ bytes image. IsThrough base (history ++ more) image) content old new
    (for_all content) since where
      for_all : (o : Option (List ℕ)) → IfSome o (λ bytes. (image : List ℕ) → IsThrough base history image → IsThrough base (history ++ more) image)
      for_all None = tt
      for_all (Some bytes) = λ image through. through_longer built base history more sound legal image through

module _ (old new : EngineView) (line : Line) (reply : Reply) (base : Base) (history : List Entry) (sound : IsSound base) (legal : IsLegalWith built base (with_entry history line reply)) (stands : StandsFor old base history) where
  before_legal : IsLegalWith built base history
  before_legal = (legal-parts built (first_state base) history (record { line = line; reply = reply } ∷ []) legal).0

  pub answer_since : LeavesEither old new → (old.log.closed ≡ true → new.log ≡ old.log) → (content : Option (List ℕ)) (before : Option Crashes) → StaysTold content old.log.content
      → Survives base history content before old.log.crashes → Survives base (with_entry history line reply) content before new.log.crashes
  answer_since leaves stays content before told since = longer_since base history (record { line = line; reply = reply } ∷ []) sound legal content before new.log.crashes
      (fault_since old new base history sound before_legal stands leaves stays content told before since)

  pub answer_now : LeavesDurable old line reply new → old.log.closed ≡ false → (content : Option (List ℕ)) → StaysTold content new.log.content → Holds base (with_entry history line reply) content new.log.crashes
  answer_now leaves runs content told =
      now_join (λ bytes image. RecoversThrough (state base (with_entry history line reply)) (state base (with_entry history line reply)).durable image)
      (λ bytes image. HoldsAcknowledged base (with_entry history line reply) image) content new.log.content new.log.crashes
      (λ bytes mid image recovers. holds_durable built base (with_entry history line reply) sound legal image recovers) told
      (leaves runs base history sound before_legal stands)
