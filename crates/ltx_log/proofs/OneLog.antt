-- A content is one log: its frames and the place of its closed gate are fixed by its bytes.
use Rattle.std.proofs.Common.{◌≡◌, ◌<◌, ◌+◌, ◌^◌, ℕ, List, [], ◌∷◌, length, take, drop, refl, sym, ap, ◌∙◌, subst, arith, Some}
use Rattle.std.specs.Prelude.{IsSomeAnd, ◌≢◌}
use Rattle.std.specs.Int.{from_be_bytes, w64}
use Rattle.std.proofs.lemmas.Nat.{from_be_bytes-to_be_bytes_8}
use Rattle.ltx_model.specs.Frames.{Frame}
use Rattle.ltx_model.specs.Contents.{Placed, next_gate, IsOpenAt, IsClosedAt, StandsAt, LeadsTo, IsLogOf}
use Rattle.ltx_frame.specs.Readings.{body_at}
use Rattle.ltx_frame.proofs.Bodies.{spelled}
use Rattle.ltx_log.proofs.Standing.{stands_length, stands_body}

-- one frame stands under an open gate
module _ (bytes : List ℕ) (place before : ℕ) (f g : Frame) (s : StandsAt bytes place before f) (t : StandsAt bytes place before g) where
  size_same : length s.body ≡ length t.body
  size_same =
      let first : length s.body < 2 ^ 64 = omega (arith, s.within) in
      let second : length t.body < 2 ^ 64 = omega (arith, t.within) in
      sym (from_be_bytes-to_be_bytes_8 (length s.body) first)
      ∙ ap (from_be_bytes w64) (sym (stands_length bytes place before f s) ∙ stands_length bytes place before g t)
      ∙ from_be_bytes-to_be_bytes_8 (length t.body) second

  body_same : s.body ≡ t.body
  body_same = sym (stands_body bytes place before f s) ∙ ap (λ (k : ℕ). take k (drop (place + 9) bytes)) size_same ∙ stands_body bytes place before g t

  pub frame_once : f ≡ g
  frame_once = let same : Some f ≡ Some g = sym (spelled s.body f s.spells) ∙ ap body_at body_same ∙ spelled t.body g t.spells in cc

open_not_closed : (bytes : List ℕ) (place : ℕ) → IsOpenAt bytes place → IsClosedAt bytes place → ⊥
open_not_closed bytes place opens closed = let other : 1 ≢ 1 = subst (λ o. IsSomeAnd o (λ byte. byte ≢ 1)) opens closed in other refl

leads_once : (bytes : List ℕ) (ps qs : List Placed) (place before gate other : ℕ) → LeadsTo bytes place before ps gate → LeadsTo bytes place before qs other
    → IsClosedAt bytes gate → IsClosedAt bytes other → (ps ≡ qs) × (gate ≡ other)
leads_once bytes [] [] place before gate other first second closed shut = (refl, first ∙ sym second)
leads_once bytes [] (q ∷ qs) place before gate other first second closed shut = absurd (open_not_closed bytes place second.1.open_gate (subst (IsClosedAt bytes) first closed))
leads_once bytes (p ∷ ps) [] place before gate other first second closed shut = absurd (open_not_closed bytes place first.1.open_gate (subst (IsClosedAt bytes) second shut))
leads_once bytes (p ∷ ps) (q ∷ qs) place before gate other first second closed shut =
    let same : p.frame ≡ q.frame = frame_once bytes place before p.frame q.frame first.1 second.1 in
    let at : p.at ≡ q.at = first.0 ∙ sym second.0 in
    let rest = leads_once bytes ps qs (next_gate place q.frame) q.frame.epoch gate other (subst (λ (f : Frame). LeadsTo bytes (next_gate place f) f.epoch ps gate) same first.2) second.2 closed shut in
    ((λ i. record { at = at i; frame = same i } ∷ rest.0 i), rest.1)

pub log_once : (bytes : List ℕ) (ps qs : List Placed) (gate other : ℕ) → IsLogOf bytes ps gate → IsLogOf bytes qs other → (ps ≡ qs) × (gate ≡ other)
log_once bytes ps qs gate other first second = leads_once bytes ps qs 17 0 gate other first.frames_are second.frames_are first.closed second.closed
