-- What each image since a call began recovers.
use Rattle.std.specs.Prelude.{IfSome}
use Rattle.std.proofs.Common.{◌≡◌, inl, ℕ, ◌+◌, ◌<◌, Bool, true, List, Option, Some, None, sym, subst}
use Rattle.ltx_model.specs.declared.commands.Command.TheVariants as commands
use Rattle.ltx_model.specs.declared.commands.Line.{Line}
use Rattle.ltx_model.specs.declared.commands.Line.TheVariants as lines
use Rattle.ltx_model.specs.declared.replies.Entry.{Entry}
use Rattle.ltx_model.specs.States.{Base, IsSound, State}
use Rattle.ltx_model.specs.Histories.{state}
use Rattle.ltx_model.specs.Frames.{Frame, sealed}
use Rattle.ltx_model.specs.Answers.{IsLegalWith}
use Rattle.ltx_model.specs.Disks.{Crashes}
use Rattle.ltx_log.specs.Running.{HasRoom, MayAddFrame}
use Rattle.ltx_log.specs.Images.{IsStill, EachSince}
use Rattle.ltx_log.proofs.Images.{leaves_itself, settled_image}
use Rattle.ltx_log.proofs.Moments.{told_map, since_as}
use Rattle.ltx_engine.specs.Stands.{IsWritten}
use Rattle.ltx_engine.specs.Images.{RecoversEither}
use Rattle.ltx_engine.proofs.Written.{written_recovers, may_recover}

-- nothing was pending and nothing was done
pub still_leaves : (Q : List ℕ → Type 0) (o : Option (List ℕ)) (x : Option Crashes) → IfSome o Q → IsStill o x → EachSince (λ bytes image. Q image) o x x
still_leaves Q None x holds still = tt
still_leaves Q (Some bytes) None holds still = tt
still_leaves Q (Some bytes) (Some old) holds still = leaves_itself Q old (λ image left. subst Q (sym (settled_image bytes image old.now still left)) holds)

module _ (built : State → Line → Bool) (base : Base) (history : List Entry) (sound : IsSound base) (legal : IsLegalWith built base history) where
  abbrev s : State
  s = state base history

  pub unchanged_since : (gate last : ℕ) (o : Option (List ℕ)) (x : Option Crashes) → IfSome o (IsWritten base history gate last) → IsStill o x → EachSince (λ bytes image. RecoversEither s image) o x x
  unchanged_since gate last o x written still =
      still_leaves (RecoversEither s) o x (told_map (IsWritten base history gate last) (RecoversEither s) o (λ bytes w. inl (written_recovers built base history sound legal gate last bytes w)) written) still

  pub append_since : ((t : State) → built t (lines.Good commands.Flush) ≡ true) → s.durable + 1 < s.epoch → HasRoom s.gate (sealed s)
      → (gate last : ℕ) (f : Frame) (o : Option (List ℕ)) (x y : Option Crashes) → f ≡ sealed s → IfSome o (IsWritten base history gate last)
      → EachSince (MayAddFrame gate last f) o x y → EachSince (λ bytes image. RecoversEither s image) o x y
  append_since is_built must room gate last f o x y is written since =
      since_as (MayAddFrame gate last f) (λ bytes image. RecoversEither s image) o x y
      (told_map (IsWritten base history gate last) (λ bytes. (image : List ℕ) → MayAddFrame gate last f bytes image → RecoversEither s image) o
      (λ bytes w image may. may_recover base history must built is_built sound legal room gate last f bytes image is may w) written)
      since
