-- What an append leaves of the frames, in each image.
use Rattle.std.proofs.Common.{◌≡◌, ◌≢◌, ◌≤◌, ◌<◌, ◌+◌, inl, inr, ℕ, List, [], ◌∷◌, ◌++◌, length, get_or, take, drop, refl, sym, ap, ◌∙◌, subst, arith, append_assoc, length-append, Some}
use Rattle.std.specs.Prelude.{slice_get, IsSomeAnd}
use Rattle.std.specs.Int.{to_be_bytes, w64}
use Rattle.std.proofs.Math.Seq.{get_or-append_seam}
use Rattle.std.proofs.lemmas.Bool.{cases_eq}
use Rattle.std.proofs.lemmas.List.{drop-drop, drop-take, length-take, length-take-le, length-drop, get_or-drop}
use Rattle.std.proofs.lemmas.Option.{slice_get-get_or, slice_get_cases}
use Rattle.ltx_model.specs.Frames.{Frame}
use Rattle.ltx_model.specs.Spellings.{body_bytes, IsFrame}
use Rattle.ltx_model.specs.Contents.{framed, next_gate, Placed, IsLog, IsOpenAt, IsClosedAt, StandsAt, LeadsTo}
use Rattle.ltx_model.specs.Disks.{Torn}
use Rattle.ltx_outside.specs.Contents.{overwritten}
use Rattle.ltx_outside.proofs.Bytes.{front_of, byte_same, overwritten_before, overwritten_from, length-overwritten}
use Rattle.ltx_log.specs.Running.{KeepsFrames, AddsFrame, MayAddFrame}
use Rattle.ltx_log.proofs.Standing.{parts_behind, stands_length, stands_body}
use Rattle.ltx_log.proofs.Leading.{leads_on, epoch_on}

plus_zero : (n : ℕ) → n ≡ n + 0
plus_zero n = omega arith

-- a part of fronts that are the same
section : (a n m : ℕ) (xs ys : List ℕ) → a + n ≤ m → take m xs ≡ take m ys → take n (drop a xs) ≡ take n (drop a ys)
section a n m xs ys within same = sym (drop-take a n xs) ∙ ap (drop a) (front_of (a + n) m xs ys within same) ∙ drop-take a n ys

front_byte : (k m : ℕ) (xs ys : List ℕ) → k < m → take m xs ≡ take m ys → slice_get xs k ≡ slice_get ys k
front_byte k m xs ys within same = byte_same k xs ys (front_of (k + 1) m xs ys (omega (arith, within)) same)

closed_within : (bytes : List ℕ) (gate : ℕ) → IsClosedAt bytes gate → gate + 1 ≤ length bytes
closed_within bytes gate closed = elim ((slice_get_cases bytes gate).1) [
  | inl found ↦ omega (arith, found.1)
  | inr past ↦ absurd (subst (λ o. IsSomeAnd o (λ byte. byte ≢ 1)) past.1 closed)
]

leads_far : (bytes : List ℕ) (ps : List Placed) (place before gate : ℕ) → LeadsTo bytes place before ps gate → place ≤ gate
leads_far bytes [] place before gate leads = omega (arith, leads)
leads_far bytes (p ∷ ps) place before gate leads = omega (arith, leads_far bytes ps (next_gate place p.frame) p.frame.epoch gate leads.2)

-- what stands before a gate stands where the bytes before it are the same
module _ (bytes image : List ℕ) (gate : ℕ) (same : take gate image ≡ take gate bytes) (long : gate + 1 ≤ length image) where
  stands_still : (place before : ℕ) (f : Frame) → next_gate place f ≤ gate → StandsAt bytes place before f → StandsAt image place before f
  stands_still place before f far s =
      let size : length s.body ≡ length (body_bytes f) = ap length s.spells.bytes in
      record {
        open_gate = front_byte place gate image bytes (omega (arith, far)) same ∙ s.open_gate;
        body = s.body;
        gate = get_or image (place + 9 + length s.body) 0;
        rest = drop (place + 9 + length s.body + 1) image;
        bytes = parts_behind image place (length s.body) (to_be_bytes w64 (length s.body)) s.body (omega (arith, far, size, long))
            (sym (section (place + 1) 8 gate image bytes (omega (arith, far)) same ∙ stands_length bytes place before f s))
            (sym (section (place + 9) (length s.body) gate image bytes (omega (arith, far, size)) same ∙ stands_body bytes place before f s));
        within = s.within;
        spells = s.spells;
        above = s.above;
      }

  leads_still : (ps : List Placed) (place before : ℕ) → LeadsTo bytes place before ps gate → LeadsTo image place before ps gate
  leads_still [] place before leads = leads
  leads_still (p ∷ ps) place before leads = (
    leads.0,
    stands_still place before p.frame (leads_far bytes ps (next_gate place p.frame) p.frame.epoch gate leads.2) leads.1,
    leads_still ps (next_gate place p.frame) p.frame.epoch leads.2,
  )

  log_still : 17 ≤ gate → IsLog bytes → IsLog image
  log_still far log = record {
    long = omega (arith, far, long);
    open_gate = front_byte 0 gate image bytes (omega (arith, far)) same ∙ log.open_gate;
    header_is = section 1 16 gate image bytes (omega (arith, far)) same ∙ log.header_is;
  }

  -- the gate is closed
  frames_still : (last : ℕ) → IsClosedAt image gate → KeepsFrames gate last bytes image
  frames_still last closed frames log = record {
    log = record {
      log = log_still (leads_far bytes frames 17 0 gate log.log.frames_are) log.log.log;
      frames_are = leads_still frames 17 0 log.log.frames_are;
      closed = closed;
    };
    last_is = log.last_is;
  }

  -- or it is open, and a frame stands under it
  frame_added : (last : ℕ) (f : Frame) → StandsAt image gate last f → IsClosedAt image (next_gate gate f) → AddsFrame gate last f bytes image
  frame_added last f stands closed frames log =
      let p : Placed = record { at = gate; frame = f } in
      record {
        log = record {
          log = log_still (leads_far bytes frames 17 0 gate log.log.frames_are) log.log.log;
          frames_are = leads_on image frames 17 0 gate p (leads_still frames 17 0 log.log.frames_are) refl (subst (λ (e : ℕ). StandsAt image gate e f) (sym log.last_is) stands);
          closed = closed;
        };
        last_is = epoch_on frames 0 p;
      }

-- where the bytes up to a closed gate stay
pub front_kept : (bytes image : List ℕ) (gate last : ℕ) → IsClosedAt bytes gate → take (gate + 1) image ≡ take (gate + 1) bytes → KeepsFrames gate last bytes image
front_kept bytes image gate last closed same =
    let within : gate + 1 ≤ length bytes = closed_within bytes gate closed in
    let size : length (take (gate + 1) image) ≡ gate + 1 = ap length same ∙ length-take-le (gate + 1) bytes within in
    frames_still bytes image gate (front_of gate (gate + 1) image bytes (omega arith) same) (omega (arith, size, length-take (gate + 1) image)) last
    (subst (λ o. IsSomeAnd o (λ byte. byte ≢ 1)) (sym (byte_same gate image bytes same)) closed)

-- a frame is written behind a closed gate, and the gate's byte may be any
module _ (bytes : List ℕ) (gate last : ℕ) (f : Frame) (closed : IsClosedAt bytes gate) (framed_f : IsFrame f) (above : last + 1 ≤ f.epoch) (room : next_gate gate f + 1 ≤ 1099511627776) where
  abbrev piece : List ℕ
  piece = framed (body_bytes f) ++ 0 ∷ []

  abbrev staged : List ℕ
  staged = overwritten (gate + 1) piece bytes

  within : gate + 1 ≤ length bytes
  within = closed_within bytes gate closed

  staged_long : gate + 1 + length piece ≤ length staged
  staged_long = omega (arith, length-overwritten (gate + 1) piece bytes within)

  staged_front : take gate staged ≡ take gate bytes
  staged_front = front_of gate (gate + 1) staged bytes (omega arith) (overwritten_before (gate + 1) piece bytes within)

  piece_size : length piece ≡ 9 + length (body_bytes f)
  piece_size =
      let eight : length (to_be_bytes w64 (length (body_bytes f))) ≡ 8 = refl in
      omega (arith, eight, length-append (framed (body_bytes f)) (0 ∷ []), length-append (to_be_bytes w64 (length (body_bytes f))) (body_bytes f))

  module _ (image : List ℕ) (front : take gate image ≡ take gate staged) (behind : drop (gate + 1) image ≡ drop (gate + 1) staged) (long : length staged ≤ length image) where
    abbrev rest : List ℕ
    rest = drop (gate + 1 + length piece) bytes

    image_behind : drop (gate + 1) image ≡ framed (body_bytes f) ++ 0 ∷ rest
    image_behind = behind ∙ overwritten_from (gate + 1) piece bytes within ∙ append_assoc (framed (body_bytes f)) (0 ∷ []) rest

    image_front : take gate image ≡ take gate bytes
    image_front = front ∙ staged_front

    image_long : gate + 1 ≤ length image
    image_long = omega (arith, long, staged_long)

    stands_there : IsOpenAt image gate → StandsAt image gate last f
    stands_there opened = record {
      open_gate = opened;
      body = body_bytes f;
      gate = 0;
      rest = rest;
      bytes = image_behind;
      within = room;
      spells = record { frame = framed_f; bytes = refl };
      above = above;
    }

    next_closed : IsClosedAt image (next_gate gate f)
    next_closed =
        let size : length (framed (body_bytes f)) ≡ 8 + length (body_bytes f) = omega (arith, piece_size, length-append (framed (body_bytes f)) (0 ∷ [])) in
        let place : gate + 1 + length (framed (body_bytes f)) ≡ next_gate gate f = omega (arith, size) in
        let byte : get_or image (next_gate gate f) 0 ≡ 0 =
        ap (λ (k : ℕ). get_or image k 0) (sym place)
        ∙ sym (get_or-drop (gate + 1) image (length (framed (body_bytes f))) 0)
        ∙ ap (λ (xs : List ℕ). get_or xs (length (framed (body_bytes f))) 0) image_behind
        ∙ get_or-append_seam (framed (body_bytes f)) 0 rest 0 in
        let inside : next_gate gate f < length image = omega (arith, place, long, staged_long, length-append (framed (body_bytes f)) (0 ∷ [])) in
        subst (λ o. IsSomeAnd o (λ b. b ≢ 1)) (sym (slice_get-get_or image (next_gate gate f) 0 inside)) (λ one. absurd (omega (arith, byte, one)))

    opened_image : IsOpenAt image gate → AddsFrame gate last f bytes image
    opened_image opened = frame_added bytes image gate image_front image_long last f (stands_there opened) next_closed

    any_image : MayAddFrame gate last f bytes image
    any_image = elim (cases_eq (get_or image gate 0) 1) [
      | inl one ↦ inr (opened_image (slice_get-get_or image gate 0 (omega (arith, image_long)) ∙ ap Some one))
      | inr other ↦ inl (frames_still bytes image gate image_front image_long last
          (subst (λ o. IsSomeAnd o (λ b. b ≢ 1)) (sym (slice_get-get_or image gate 0 (omega (arith, image_long)))) other))
    ]

  pub gate_image : (image : List ℕ) → Torn gate 1 staged image → MayAddFrame gate last f bytes image
  gate_image image torn = any_image image torn.before torn.behind torn.no_shorter

  pub body_image : (image : List ℕ) → Torn (gate + 1) (length piece) bytes image → KeepsFrames gate last bytes image
  body_image image torn = front_kept bytes image gate last closed torn.before

  pub gate_opened : AddsFrame gate last f bytes (overwritten gate (1 ∷ []) staged)
  gate_opened =
      let here : gate ≤ length staged = omega (arith, staged_long) in
      let from : drop gate (overwritten gate (1 ∷ []) staged) ≡ 1 ∷ drop (gate + 1) staged = overwritten_from gate (1 ∷ []) staged here in
      let size : length (overwritten gate (1 ∷ []) staged) ≡ gate + 1 + length (drop (gate + 1) staged) = length-overwritten gate (1 ∷ []) staged here in
      let at_gate : get_or (overwritten gate (1 ∷ []) staged) gate 0 ≡ 1 =
      ap (λ (k : ℕ). get_or (overwritten gate (1 ∷ []) staged) k 0) (plus_zero gate) ∙ sym (get_or-drop gate (overwritten gate (1 ∷ []) staged) 0 0) ∙ ap (λ (xs : List ℕ). get_or xs 0 0) from in
      let long : length staged ≤ length (overwritten gate (1 ∷ []) staged) = omega (arith, size, length-drop (gate + 1) staged, staged_long) in
      let behind : drop (gate + 1) (overwritten gate (1 ∷ []) staged) ≡ drop (gate + 1) staged = sym (drop-drop 1 gate (overwritten gate (1 ∷ []) staged)) ∙ ap (drop 1) from in
      opened_image (overwritten gate (1 ∷ []) staged) (overwritten_before gate (1 ∷ []) staged here) behind long
      (slice_get-get_or (overwritten gate (1 ∷ []) staged) gate 0 (omega (arith, long, staged_long)) ∙ ap Some at_gate)
