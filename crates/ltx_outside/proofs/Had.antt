-- Each image can be had by filling what is free.
use Rattle.std.proofs.Common.{◌≡◌, ◌≤◌, ◌<◌, ◌⊎◌, inl, inr, ℕ, List, length, get_or, refl, sym, ap, ◌∙◌, arith, Bool, true, false, Some, cond}
use Rattle.std.specs.Prelude.{IsFalse, nat_lt, not, ◌&&◌}
use Rattle.std.proofs.lemmas.Bool.Decides.{nat_tests}
use Rattle.std.proofs.lemmas.Bool.{cases_Bool, cases_lt}
use Rattle.std.proofs.lemmas.Option.{slice_get-get_or}
use Rattle.ltx_model.specs.Disks.{Images, IsImage, is_written}
use Rattle.ltx_outside.specs.Crash.{byte_of, IsFilled}
use Rattle.ltx_outside.proofs.Bytes.{back_same}

cond_of : (b : Bool) (x y : ℕ) → b ≡ true → cond b x y ≡ x
cond_of true x y is = refl
cond_of false x y is = absurd (grind (arith, is))

cond_by : (b : Bool) (x y : ℕ) → b ≡ false → cond b x y ≡ y
cond_by true x y is = absurd (grind (arith, is))
cond_by false x y is = refl

fixed_test : (inside written : Bool) → inside ≡ true → written ≡ false → (inside && not written) ≡ true
fixed_test true false in_it free = refl
fixed_test true true in_it free = absurd (grind (arith, free))
fixed_test false written in_it free = absurd (grind (arith, in_it))

free_test : (inside written : Bool) → written ≡ true → (inside && not written) ≡ false
free_test true true is = refl
free_test true false is = absurd (grind (arith, is))
free_test false written is = refl

past_test : (inside written : Bool) → inside ≡ false → (inside && not written) ≡ false
past_test true written is = absurd (grind (arith, is))
past_test false written is = refl

-- the byte of an image at a place that is fixed, and at one that is free
byte_cases : (images : Images) (fill : List ℕ) (place : ℕ) →
    ((place < length images.fixed) × IsFalse (is_written images.written place) × (byte_of images fill place ≡ get_or images.fixed place 0)) ⊎ (byte_of images fill place ≡ get_or fill place 0)
byte_cases images fill place = elim (cases_lt place (length images.fixed)) [
  | inl inside ↦ elim (cases_Bool (is_written images.written place)) [
    | inl written ↦ inr (cond_by _ _ _ (free_test (nat_lt place (length images.fixed)) (is_written images.written place) written))
    | inr fixed ↦ inl (inside, fixed, cond_of _ _ _ (fixed_test (nat_lt place (length images.fixed)) (is_written images.written place) (grind (arith, nat_tests, inside)) fixed))
  ]
  | inr past ↦ inr (cond_by _ _ _ (past_test (nat_lt place (length images.fixed)) (is_written images.written place) (grind (arith, nat_tests, past))))
]

-- what is filled is an image
pub filled_sound : (images : Images) (wanted : ℕ) (fill image : List ℕ) → length images.fixed ≤ images.longest → IsFilled images wanted fill image → IsImage images image
filled_sound images wanted fill image bounds filled = record {
  no_shorter = omega (arith, filled.size);
  no_longer = omega (arith, filled.size, bounds);
  same = λ place inside fixed.
      let in_image : place < length image = omega (arith, filled.size, inside) in
      let byte : byte_of images fill place ≡ get_or images.fixed place 0 = cond_of _ _ _ (fixed_test (nat_lt place (length images.fixed)) (is_written images.written place) (grind (arith, nat_tests, inside)) fixed) in
      slice_get-get_or image place 0 in_image ∙ ap Some (filled.bytes place in_image ∙ byte) ∙ sym (slice_get-get_or images.fixed place 0 inside);
}

-- and what is filled with an image is that image
pub filled_complete : (images : Images) (wanted : ℕ) (fill image : List ℕ) → IsFilled images wanted fill image → IsImage images fill → wanted ≡ length fill → image ≡ fill
filled_complete images wanted fill image filled left is =
    let size : length image ≡ length fill = omega (arith, filled.size, is, left.no_shorter, left.no_longer) in
    back_same 0 image fill size (λ place from inside.
    slice_get-get_or image place 0 (omega (arith, size, inside)) ∙ elim (byte_cases images fill place) [
      | inl fixed ↦ ap Some (filled.bytes place (omega (arith, size, inside)) ∙ fixed.2) ∙ sym (slice_get-get_or images.fixed place 0 fixed.0) ∙ sym (left.same place fixed.0 fixed.1)
      | inr free ↦ ap Some (filled.bytes place (omega (arith, size, inside)) ∙ free) ∙ sym (slice_get-get_or fill place 0 inside)
    ])
