-- Which frame stands under an open gate.
use Rattle.std.proofs.Common.{◌≡◌, ◌<◌, ◌≤◌, ◌+◌, ◌^◌, ℕ, List, ◌∷◌, ◌++◌, length, take, drop, get_or, refl, sym, ap, ◌∙◌, subst, arith, append_assoc, length-append, Option, Some, None}
use Rattle.std.specs.Prelude.{IfSome}
use Rattle.std.specs.Int.{to_be_bytes, from_be_bytes, w64}
use Rattle.std.proofs.lemmas.List.{drop-drop, take-append-drop, take_at, drop_at, drop_more, length-drop}
use Rattle.std.proofs.lemmas.Nat.{from_be_bytes-to_be_bytes_8}
use Rattle.ltx_model.specs.Frames.{Frame}
use Rattle.ltx_model.specs.Spellings.{Spells}
use Rattle.ltx_model.specs.Contents.{framed, next_gate, IsOpenAt, StandsAt}
use Rattle.ltx_log.specs.Readings.{HasLength, HasNoBody, IsBodyAt}

-- what stands behind a gate, in parts
pub parts_behind : (bytes : List ℕ) (gate n : ℕ) (len body : List ℕ) → gate + 9 + n + 1 ≤ length bytes → len ≡ take 8 (drop (gate + 1) bytes) → body ≡ take n (drop (gate + 9) bytes)
    → drop (gate + 1) bytes ≡ len ++ body ++ get_or bytes (gate + 9 + n) 0 ∷ drop (gate + 9 + n + 1) bytes
parts_behind bytes gate n len body inside len_is body_is =
    let far : gate + 1 + 8 ≡ gate + 9 = omega arith in
    let second : drop 8 (drop (gate + 1) bytes) ≡ drop (gate + 9) bytes = drop-drop 8 (gate + 1) bytes ∙ ap (λ (k : ℕ). drop k bytes) far in
    let third : drop n (drop (gate + 9) bytes) ≡ get_or bytes (gate + 9 + n) 0 ∷ drop (gate + 9 + n + 1) bytes = drop-drop n (gate + 9) bytes ∙ drop_more bytes (gate + 9 + n) 0 (omega (arith, inside)) in
    let behind : drop (gate + 9) bytes ≡ body ++ get_or bytes (gate + 9 + n) 0 ∷ drop (gate + 9 + n + 1) bytes =
    sym (take-append-drop n (drop (gate + 9) bytes))
    ∙ ap (λ (xs : List ℕ). xs ++ drop n (drop (gate + 9) bytes)) (sym body_is)
    ∙ ap (λ (xs : List ℕ). body ++ xs) third in
    sym (take-append-drop 8 (drop (gate + 1) bytes))
    ∙ ap (λ (xs : List ℕ). xs ++ drop 8 (drop (gate + 1) bytes)) (sym len_is)
    ∙ ap (λ (xs : List ℕ). len ++ xs) (second ∙ behind)
    ∙ sym (append_assoc len body (get_or bytes (gate + 9 + n) 0 ∷ drop (gate + 9 + n + 1) bytes))

-- a frame with this body stands there
pub stands : (bytes : List ℕ) (gate n before : ℕ) (body : List ℕ) (f : Frame) → IsOpenAt bytes gate → HasLength bytes gate (Some n) → IsBodyAt bytes gate n body → Spells body f → before + 1 ≤ f.epoch → StandsAt bytes gate before f
stands bytes gate n before body f opens has found spells above = record {
  open_gate = opens;
  body = body;
  gate = get_or bytes (gate + 9 + n) 0;
  rest = drop (gate + 9 + n + 1) bytes;
  bytes = parts_behind bytes gate n (to_be_bytes w64 (length body)) body found.within (ap (to_be_bytes w64) found.size ∙ sym has.2) found.bytes_are;
  within = omega (arith, found.limit, found.size);
  spells = spells;
  above = above;
}

-- what stands under an open gate is found there
module _ (bytes : List ℕ) (gate before : ℕ) (f : Frame) (s : StandsAt bytes gate before f) where
  eight : length (to_be_bytes w64 (length s.body)) ≡ 8
  eight = refl

  pub stands_within : gate + 9 + length s.body + 1 ≤ length bytes
  stands_within =
      let size : length (drop (gate + 1) bytes) ≡ 8 + length s.body + 1 + length s.rest =
      ap length s.bytes ∙ length-append (framed s.body) (s.gate ∷ s.rest) ∙ ap (λ (k : ℕ). k + length (s.gate ∷ s.rest)) (length-append (to_be_bytes w64 (length s.body)) s.body) ∙ omega (arith, eight) in
      omega (arith, size, length-drop (gate + 1) bytes)

  in_parts : drop (gate + 1) bytes ≡ to_be_bytes w64 (length s.body) ++ (s.body ++ s.gate ∷ s.rest)
  in_parts = s.bytes ∙ append_assoc (to_be_bytes w64 (length s.body)) s.body (s.gate ∷ s.rest)

  pub stands_length : take 8 (drop (gate + 1) bytes) ≡ to_be_bytes w64 (length s.body)
  stands_length = ap (take 8) in_parts ∙ take_at (to_be_bytes w64 (length s.body)) (s.body ++ s.gate ∷ s.rest) 8 eight

  pub stands_body : take (length s.body) (drop (gate + 9) bytes) ≡ s.body
  stands_body =
      let far : gate + 1 + 8 ≡ gate + 9 = omega arith in
      ap (λ (k : ℕ). take (length s.body) (drop k bytes)) (sym far)
      ∙ ap (take (length s.body)) (sym (drop-drop 8 (gate + 1) bytes) ∙ ap (drop 8) in_parts ∙ drop_at (to_be_bytes w64 (length s.body)) (s.body ++ s.gate ∷ s.rest) 8 eight)
      ∙ take_at s.body (s.gate ∷ s.rest) (length s.body) refl

  has_length : HasLength bytes gate None → ⊥
  has_length short = omega (arith, short, stands_within)

  length_is : (n : ℕ) → HasLength bytes gate (Some n) → length s.body ≡ n
  length_is n has =
      let small : length s.body < 2 ^ 64 = omega (arith, s.within) in
      sym (from_be_bytes-to_be_bytes_8 (length s.body) small)
      ∙ ap (from_be_bytes w64) (sym stands_length ∙ has.2)
      ∙ from_be_bytes-to_be_bytes_8 n (omega (arith, has.1))

  has_body : (n : ℕ) → HasLength bytes gate (Some n) → HasNoBody bytes gate n → ⊥
  has_body n has none = none (omega (arith, length_is n has, stands_within)) (omega (arith, length_is n has, s.within))

  has_frame : (n : ℕ) (body : List ℕ) → HasLength bytes gate (Some n) → IsBodyAt bytes gate n body → ((g : Frame) → Spells body g → before + 1 ≤ g.epoch → ⊥) → ⊥
  has_frame n body has found none =
      let same : s.body ≡ body = sym stands_body ∙ ap (λ (k : ℕ). take k (drop (gate + 9) bytes)) (length_is n has) ∙ sym found.bytes_are in
      none f (subst (λ b. Spells b f) same s.spells) s.above

-- the same where a disk may tell its bytes
module _ (gate before : ℕ) where
  pub no_length : (o : Option (List ℕ)) (told : Option ℕ) → told ≡ None → IfSome o (λ bytes. HasLength bytes gate told) → IfSome o (λ bytes. (f : Frame) → StandsAt bytes gate before f → ⊥)
  no_length None told is has = tt
  no_length (Some bytes) told is has = λ f s. has_length bytes gate before f s (subst (HasLength bytes gate) is has)

  pub no_body : (o : Option (List ℕ)) (told : Option ℕ) (n : ℕ) → told ≡ Some n → IfSome o (λ bytes. HasLength bytes gate told) → IfSome o (λ bytes. HasNoBody bytes gate n) → IfSome o (λ bytes. (f : Frame) → StandsAt bytes gate before f → ⊥)
  no_body None told n is has none = tt
  no_body (Some bytes) told n is has none = λ f s. has_body bytes gate before f s n (subst (HasLength bytes gate) is has) none

  pub no_frame : (o : Option (List ℕ)) (told : Option ℕ) (n : ℕ) (body : List ℕ) → told ≡ Some n → IfSome o (λ bytes. HasLength bytes gate told) → IfSome o (λ bytes. IsBodyAt bytes gate n body)
      → ((g : Frame) → Spells body g → before + 1 ≤ g.epoch → ⊥) → IfSome o (λ bytes. (f : Frame) → StandsAt bytes gate before f → ⊥)
  no_frame None told n body is has found none = tt
  no_frame (Some bytes) told n body is has found none = λ f s. has_frame bytes gate before f s n body (subst (HasLength bytes gate) is has) found none

  pub a_frame : (o : Option (List ℕ)) (told : Option ℕ) (n : ℕ) (body : List ℕ) (f : Frame) → told ≡ Some n → IfSome o (λ bytes. IsOpenAt bytes gate) → IfSome o (λ bytes. HasLength bytes gate told)
      → IfSome o (λ bytes. IsBodyAt bytes gate n body) → Spells body f → before + 1 ≤ f.epoch → IfSome o (λ bytes. StandsAt bytes gate before f)
  a_frame None told n body f is opens has found spells above = tt
  a_frame (Some bytes) told n body f is opens has found spells above = stands bytes gate n before body f opens (subst (HasLength bytes gate) is has) found spells above

  pub next_of : (n : ℕ) (body : List ℕ) (f : Frame) → length body ≡ n → Spells body f → gate + 9 + n ≡ next_gate gate f
  next_of n body f size spells = ap (λ (k : ℕ). gate + 9 + k) (sym size ∙ ap length spells.bytes)
