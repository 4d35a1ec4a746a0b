-- Clauses of an append and of an opening, where the disk may tell its bytes and its images.
use Rattle.std.proofs.Common.{◌≡◌, ◌≤◌, ◌<◌, ◌+◌, inl, ℕ, List, [], ◌∷◌, ◌++◌, length, get_or, refl, sym, ap, ◌∙◌, subst, arith, length-append, Option, Some, None}
use Rattle.std.specs.Prelude.{Result, Ok, Err, OnOk, OnErr, IfSome, IfNone, IsSomeAnd}
use Rattle.ltx_model.specs.Frames.{Frame}
use Rattle.std.specs.Int.{to_be_bytes, w64}
use Rattle.ltx_model.specs.Spellings.{body_bytes, IsFrame}
use Rattle.ltx_model.specs.Contents.{Placed, framed, next_gate, IsClosedAt}
use Rattle.ltx_model.specs.Disks.{Crashes, IsImage, IsSettled, Leaves, Torn, only, synced}
use Rattle.ltx_outside.specs.Contents.{overwritten}
use Rattle.ltx_log.specs.Images.{IsStill, EachSince}
use Rattle.ltx_log.specs.Running.{IsPiece, IsLogTo, IsSomeLog, IsRunning, KeepsFrames, AddsFrame, MayAddFrame, EachNow, with_frame}
use Rattle.ltx_log.proofs.Images.{settled_image, only_settled, leaves_itself}
use Rattle.ltx_log.proofs.Moments.{told_map, since_as, since_on}
use Rattle.ltx_log.proofs.Appends.{front_kept, gate_image, gate_opened}

abbrev Shut : ℕ → List ℕ → Type 0
Shut gate bytes = IsClosedAt bytes gate

-- nothing was pending and nothing was done
pub still_since : (P : List ℕ → List ℕ → Type 0) (same : (bytes : List ℕ) → P bytes bytes) (o : Option (List ℕ)) (x : Option Crashes) → IsStill o x → EachSince P o x x
still_since P same None x still = tt
still_since P same (Some bytes) None still = tt
still_since P same (Some bytes) (Some old) still = leaves_itself (P bytes) old (λ image left. subst (P bytes) (sym (settled_image bytes image old.now still left)) (same bytes))

-- what holds of the content holds of each image now, where nothing is pending
pub still_now : (P : List ℕ → List ℕ → Type 0) (o p : Option (List ℕ)) (z : Option Crashes) → IfSome o (λ bytes. IsSomeAnd p (P bytes)) → IsStill p z → EachNow P o z
still_now P None p z holds still = tt
still_now P (Some bytes) None z holds still = absurd holds
still_now P (Some bytes) (Some now) None holds still = tt
still_now P (Some bytes) (Some now) (Some told) holds still = λ image left. subst (P bytes) (sym (settled_image now image told.now still left)) holds

told_self : (P : List ℕ → List ℕ → Type 0) (same : (bytes : List ℕ) → P bytes bytes) (o : Option (List ℕ)) → IfSome o (λ bytes. IsSomeAnd o (P bytes))
told_self P same None = tt
told_self P same (Some bytes) = same bytes

pub kept_now : (gate last : ℕ) (o : Option (List ℕ)) (x : Option Crashes) → IsStill o x → EachNow (KeepsFrames gate last) o x
kept_now gate last o x still = still_now (KeepsFrames gate last) o o x (told_self (KeepsFrames gate last) (λ bytes frames log. log) o) still

-- ---- a sync

synced_leaves : (bytes : List ℕ) (old : Crashes) → IsSettled bytes old.now → Leaves (λ image. image ≡ bytes) old (synced bytes old)
synced_leaves bytes old still = record {
  more = old.now ∷ [];
  past = refl;
  since = λ k images below image left.
      let first : k ≡ 0 = omega (arith, below) in
      settled_image bytes image old.now still (subst (λ (i : ℕ). IsImage (get_or (old.now ∷ []) i images) image) first left);
  now = λ image left. settled_image bytes image (only bytes) (only_settled bytes) left;
}

abbrev Same : List ℕ → List ℕ → Type 0
Same bytes image = image ≡ bytes

pub sync_since : {T E : Type 0} (result : Result T E) (o : Option (List ℕ)) (x y : Option Crashes) → OnOk result (IfSome o (λ bytes. IfSome x (λ old. y ≡ Some (synced bytes old)))) → OnErr result (y ≡ x)
    → IsStill o x → EachSince (λ bytes image. image ≡ bytes) o x y
sync_since (Err e) o x y has hasnt still = subst (EachSince Same o x) (sym hasnt) (still_since Same (λ bytes. refl) o x still)
sync_since (Ok v) None x y has hasnt still = tt
sync_since (Ok v) (Some bytes) None y has hasnt still = tt
sync_since (Ok v) (Some bytes) (Some old) y has hasnt still = subst (EachSince Same (Some bytes) (Some old)) (sym has) (synced_leaves bytes old still)

-- ---- an append

module _ (gate last : ℕ) (f : Frame) (q : List ℕ) (spelled : IsPiece q gate last f) where
  kept : (o : Option (List ℕ)) → IfSome o (Shut gate) → IfSome o (λ bytes. (image : List ℕ) → Torn (gate + 1) (length q) bytes image → MayAddFrame gate last f bytes image)
  kept o shut = told_map (Shut gate) (λ bytes. (image : List ℕ) → Torn (gate + 1) (length q) bytes image → MayAddFrame gate last f bytes image) o
      (λ bytes closed image torn. inl (front_kept bytes image gate last closed torn.before)) shut

  added_at : (bytes image : List ℕ) → IsClosedAt bytes gate → Torn gate 1 (overwritten (gate + 1) q bytes) image → MayAddFrame gate last f bytes image
  added_at bytes image closed torn = gate_image bytes gate last f closed spelled.frame spelled.above spelled.room image (subst (λ p. Torn gate 1 (overwritten (gate + 1) p bytes) image) spelled.bytes torn)

  added : (o : Option (List ℕ)) → IfSome o (Shut gate) → IfSome o (λ bytes. (image : List ℕ) → Torn gate 1 (overwritten (gate + 1) q bytes) image → MayAddFrame gate last f bytes image)
  added o shut = told_map (Shut gate) (λ bytes. (image : List ℕ) → Torn gate 1 (overwritten (gate + 1) q bytes) image → MayAddFrame gate last f bytes image) o
      (λ bytes closed image torn. added_at bytes image closed torn) shut

  pub piece_since : (o : Option (List ℕ)) (x y : Option Crashes) → IfSome o (λ bytes. IsClosedAt bytes gate) → EachSince (Torn (gate + 1) (length q)) o x y → EachSince (MayAddFrame gate last f) o x y
  piece_since o x y shut since = since_as (Torn (gate + 1) (length q)) (MayAddFrame gate last f) o x y (kept o shut) since

  pub gate_since : (o p : Option (List ℕ)) (x y z : Option Crashes) → IfSome o (λ bytes. IsClosedAt bytes gate) → IfSome o (λ bytes. p ≡ Some (overwritten (gate + 1) q bytes))
      → EachSince (Torn (gate + 1) (length q)) o x y → EachSince (Torn gate 1) p y z → EachSince (MayAddFrame gate last f) o x z
  gate_since o p x y z shut step first second = since_on (Torn (gate + 1) (length q)) (Torn gate 1) (MayAddFrame gate last f) (overwritten (gate + 1) q) o p x y z (kept o shut) (added o shut) step first second

  opened_at : (bytes : List ℕ) → IsClosedAt bytes gate → AddsFrame gate last f bytes (overwritten gate (1 ∷ []) (overwritten (gate + 1) q bytes))
  opened_at bytes closed =
      subst (λ p. AddsFrame gate last f bytes (overwritten gate (1 ∷ []) (overwritten (gate + 1) p bytes))) (sym spelled.bytes) (gate_opened bytes gate last f closed spelled.frame spelled.above spelled.room)

  pub frame_told : (o p : Option (List ℕ)) → IfSome o (λ bytes. IsClosedAt bytes gate) → IfSome o (λ bytes. p ≡ Some (overwritten gate (1 ∷ []) (overwritten (gate + 1) q bytes)))
      → IfSome o (λ bytes. IsSomeAnd p (AddsFrame gate last f bytes))
  frame_told None p shut step = tt
  frame_told (Some bytes) p shut step = subst (λ r. IsSomeAnd r (AddsFrame gate last f bytes)) (sym step) (opened_at bytes shut)

-- a piece that has room
pub is_piece : (q : List ℕ) (gate next last : ℕ) (f : Frame) → IsFrame f → q ≡ framed (body_bytes f) ++ 0 ∷ [] → last + 1 ≤ f.epoch → next ≡ gate + length q → next < 1099511627776 → IsPiece q gate last f
is_piece q gate next last f frame bytes above to below =
    let eight : length (to_be_bytes w64 (length (body_bytes f))) ≡ 8 = refl in
    let size : length q ≡ length (framed (body_bytes f)) + 1 = ap length bytes ∙ length-append (framed (body_bytes f)) (0 ∷ []) in
    record {
      frame = frame;
      bytes = bytes;
      above = above;
      room = omega (arith, to, below, size, eight, length-append (to_be_bytes w64 (length (body_bytes f))) (body_bytes f));
    }

pub next_place : (q : List ℕ) (gate next : ℕ) (f : Frame) → q ≡ framed (body_bytes f) ++ 0 ∷ [] → next ≡ gate + length q → next ≡ next_gate gate f
next_place q gate next f bytes to =
    let eight : length (to_be_bytes w64 (length (body_bytes f))) ≡ 8 = refl in
    let size : length q ≡ length (framed (body_bytes f)) + 1 = ap length bytes ∙ length-append (framed (body_bytes f)) (0 ∷ []) in
    omega (arith, to, size, eight, length-append (to_be_bytes w64 (length (body_bytes f))) (body_bytes f))

-- ---- a log that runs

pub gate_shut : (o : Option (List ℕ)) (x : Option Crashes) (gate last : ℕ) → IsRunning o x gate last → IfSome o (λ bytes. IsClosedAt bytes gate)
gate_shut o x gate last running = told_map (λ bytes. IsSomeLog bytes gate last) (Shut gate) o (λ bytes some. some.log.log.closed) running.log

log_on : (gate last : ℕ) (f : Frame) (o p : Option (List ℕ)) → IfSome o (λ bytes. IsSomeLog bytes gate last) → IfSome o (λ bytes. IsSomeAnd p (AddsFrame gate last f bytes)) → IfNone o (p ≡ None)
    → IfSome p (λ bytes. IsSomeLog bytes (next_gate gate f) f.epoch)
log_on gate last f None p some adds untold = subst (λ r. IfSome r (λ bytes. IsSomeLog bytes (next_gate gate f) f.epoch)) (sym untold) tt
log_on gate last f (Some bytes) None some adds untold = tt
log_on gate last f (Some bytes) (Some now) some adds untold = record { frames = with_frame some.frames gate f; log = adds some.frames some.log }

pub running_on : (gate last next later : ℕ) (f : Frame) (o p : Option (List ℕ)) (x z : Option Crashes) → IsRunning o x gate last → IfSome o (λ bytes. IsSomeAnd p (AddsFrame gate last f bytes)) → IfNone o (p ≡ None)
    → IsStill p z → next ≡ next_gate gate f → later ≡ f.epoch → IsRunning p z next later
running_on gate last next later f o p x z running adds untold still to at =
    subst (λ (k : ℕ). IsRunning p z k later) (sym to) (subst (λ (e : ℕ). IsRunning p z (next_gate gate f) e) (sym at)
    (record { log = log_on gate last f o p running.log adds untold; still = still }))

pub running_first : (o : Option (List ℕ)) (x : Option Crashes) (frames : List Placed) (gate last : ℕ) → IfSome o (λ bytes. IsLogTo bytes frames gate last) → IsStill o x → IsRunning o x gate last
running_first o x frames gate last log still = record {
  log = told_map (λ bytes. IsLogTo bytes frames gate last) (λ bytes. IsSomeLog bytes gate last) o (λ bytes of. record { frames = frames; log = of }) log;
  still = still;
}
