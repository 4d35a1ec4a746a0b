-- What each image since a moment has, and the two readings of "nothing is pending".
use Rattle.std.proofs.Common.{◌≡◌, ◌≢◌, ◌<◌, ◌+◌, inl, inr, ℕ, List, [], ◌∷◌, ◌++◌, length, get_or, drop, set, refl, sym, ap, ◌∙◌, subst, arith, length-append, Bool, true, false, Some}
use Rattle.std.specs.Prelude.{All, Any}
use Rattle.std.proofs.Math.Seq.{drop-append_seam}
use Rattle.std.proofs.lemmas.Bool.{cases_Bool, cases_lt}
use Rattle.std.proofs.lemmas.List.{get_or_append_left, get_or-set_same, get_or-set_other, length-set}
use Rattle.std.proofs.lemmas.List.Elements.{All-append}
use Rattle.std.proofs.lemmas.Option.{slice_get-get_or}
use Rattle.ltx_model.specs.Disks.{Images, Crashes, IsImage, IsImageSince, IsSettled, EachImage, Leaves, moment, is_written}

one : (P : List ℕ → Type 0) (images : Images) → EachImage P images → All (EachImage P) (images ∷ [])
one P images each = λ k d below.
    let first : 0 ≡ k = omega (arith, below) in
    subst (λ i. EachImage P (get_or (images ∷ []) i d)) first each

-- a call's clause, for one image since the call began
pub leaves_each : (P : List ℕ → Type 0) (old new : Crashes) (image : List ℕ) → Leaves P old new → IsImageSince new (moment old) image → P image
leaves_each P old new image leaves left =
    let past : drop (length old.past) new.past ≡ leaves.more = ap (drop (length old.past)) leaves.past ∙ drop-append_seam old.past leaves.more in
    let all : All (EachImage P) (leaves.more ++ new.now ∷ []) = All-append (EachImage P) leaves.more (new.now ∷ []) leaves.since (one P new.now leaves.now) in
    let found : Any (λ images. IsImage images image) (leaves.more ++ new.now ∷ []) = subst (λ states. Any (λ images. IsImage images image) (states ++ new.now ∷ [])) past left in
    all found.0 found.1 found.2 image (subst (λ images. IsImage images image) (sym found.3) found.4)

both_ways : (b : Bool) → b ≡ true → b ≡ false → ⊥
both_ways b is isnt = grind (arith, is, isnt)

module _ (bytes : List ℕ) (images : Images) (has : IsImage images bytes) (only : EachImage (λ image. image ≡ bytes) images) where
  longer_image : length bytes < images.longest → length images.fixed ≡ length bytes → ⊥
  longer_image longer size =
      let image : IsImage images (bytes ++ 0 ∷ []) = record {
        no_shorter = omega (arith, has.no_shorter, length-append bytes (0 ∷ []));
        no_longer = omega (arith, longer, length-append bytes (0 ∷ []));
        same = λ place inside still.
            slice_get-get_or (bytes ++ 0 ∷ []) place 0 (omega (arith, inside, size, length-append bytes (0 ∷ [])))
            ∙ ap Some (get_or_append_left bytes (0 ∷ []) 0 place (omega (arith, inside, size)))
            ∙ sym (slice_get-get_or bytes place 0 (omega (arith, inside, size)))
            ∙ has.same place inside still;
      } in
      omega (arith, ap length (only (bytes ++ 0 ∷ []) image), length-append bytes (0 ∷ []))

  changed_image : (place : ℕ) → place < length bytes → is_written images.written place ≡ true → length images.fixed ≡ length bytes → ⊥
  changed_image place inside written size =
      let byte = get_or bytes place 0 in
      let image : IsImage images (set bytes place (byte + 1)) = record {
        no_shorter = omega (arith, has.no_shorter, length-set bytes place (byte + 1));
        no_longer = omega (arith, has.no_longer, length-set bytes place (byte + 1));
        same = λ other in_fixed still.
            let differs : other ≢ place = λ is. both_ways (is_written images.written place) written (subst (λ k. is_written images.written k ≡ false) is still) in
            slice_get-get_or (set bytes place (byte + 1)) other 0 (omega (arith, in_fixed, size, length-set bytes place (byte + 1)))
            ∙ ap Some (get_or-set_other bytes place other (byte + 1) 0 differs)
            ∙ sym (slice_get-get_or bytes other 0 (omega (arith, in_fixed, size)))
            ∙ has.same other in_fixed still;
      } in
      let same : byte + 1 ≡ byte = sym (get_or-set_same bytes place (byte + 1) 0 inside) ∙ ap (λ (xs : List ℕ). get_or xs place 0) (only (set bytes place (byte + 1)) image) in
      omega (arith, same)

-- where these bytes are an image and the only one, nothing is pending
pub settled_only : (bytes : List ℕ) (images : Images) → IsImage images bytes → EachImage (λ image. image ≡ bytes) images → IsSettled bytes images
settled_only bytes images has only =
    let fixed : images.fixed ≡ bytes = only images.fixed (record { no_shorter = omega arith; no_longer = omega (arith, has.no_shorter, has.no_longer); same = λ place inside still. refl }) in
    let size : length images.fixed ≡ length bytes = ap length fixed in
    record {
      fixed = fixed;
      longest = elim (cases_lt (length bytes) images.longest) [
        | inl longer ↦ absurd (longer_image bytes images has only longer size)
        | inr no_longer ↦ omega (arith, no_longer, has.no_longer)
      ];
      still = λ place inside. elim (cases_Bool (is_written images.written place)) [
        | inl written ↦ absurd (changed_image bytes images has only place inside written size)
        | inr still ↦ still
      ];
    }
