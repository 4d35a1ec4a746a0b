-- The steps that make a log of a blank disk.
use Rattle.std.proofs.Common.{◌≡◌, ◌≢◌, ◌≤◌, inl, inr, ℕ, List, [], ◌∷◌, ◌++◌, length, take, drop, refl, sym, ap, ◌∙◌, subst, arith, Option, Some}
use Rattle.std.specs.Prelude.{slice_get, IfSome, IsSomeAnd}
use Rattle.std.proofs.lemmas.Bool.{cases_eq}
use Rattle.std.proofs.lemmas.List.{drop-drop, drop_all, drop_more, take-append-drop}
use Rattle.std.proofs.lemmas.Option.{get_or_from_slice_get}
use Rattle.ltx_model.specs.Contents.{header, IsUnopened}
use Rattle.ltx_model.specs.Disks.{Torn, Crashes}
use Rattle.ltx_outside.specs.Contents.{overwritten}
use Rattle.ltx_outside.proofs.Bytes.{byte_same}
use Rattle.ltx_log.specs.Images.{EachSince}
use Rattle.ltx_log.specs.Making.{IsShut, IsFresh}
use Rattle.ltx_log.proofs.Moments.{told_map, since_as, since_on}

some_same : (x y : ℕ) → Some x ≡ Some y → x ≡ y
some_same x y same = grind arith

closed_by : (bytes : List ℕ) (place : ℕ) → slice_get bytes place ≡ Some 0 → IsSomeAnd (slice_get bytes place) (λ byte. byte ≢ 1)
closed_by bytes place is = subst (λ o. IsSomeAnd o (λ byte. byte ≢ 1)) (sym is) (λ one. absurd (omega (arith, one)))

-- ---- the open gate

pub unopened_image : (bytes image : List ℕ) → IsUnopened bytes → Torn 0 1 bytes image → IsFresh image
unopened_image [] image unopened torn = absurd (omega (arith, unopened.long))
unopened_image (y ∷ ys) [] unopened torn = absurd (omega (arith, unopened.long, torn.no_shorter))
unopened_image (y ∷ ys) (x ∷ xs) unopened torn =
    let behind : xs ≡ ys = torn.behind in
    let size : length (x ∷ xs) ≡ 18 = omega (arith, unopened.long, torn.no_shorter, torn.no_longer) in
    let header_is : take 16 xs ≡ header = ap (take 16) behind ∙ unopened.header_is in
    let gate : slice_get xs 16 ≡ Some 0 = ap (λ (zs : List ℕ). slice_get zs 16) behind ∙ unopened.gate in
    elim (cases_eq x 1) [
      | inl is ↦ inr (record { log = record { long = omega (arith, size); open_gate = ap Some is; header_is = header_is }; frames_are = refl; closed = closed_by xs 16 gate })
      | inr isnt ↦ inl (inr (inr (record { long = size; header_is = header_is; gate = gate; shut = λ same. isnt (some_same x 1 same) })))
    ]

pub opened_content : (bytes : List ℕ) → IsUnopened bytes → overwritten 0 (1 ∷ []) bytes ≡ 1 ∷ header ++ 0 ∷ []
opened_content bytes unopened =
    let last : drop 16 (drop 1 bytes) ≡ 0 ∷ [] =
    drop-drop 16 1 bytes ∙ drop_more bytes 17 0 (omega (arith, unopened.long))
    ∙ ap (λ (b : ℕ). b ∷ drop 18 bytes) (get_or_from_slice_get bytes 17 0 0 unopened.gate)
    ∙ ap (λ (zs : List ℕ). 0 ∷ zs) (drop_all 18 bytes (omega (arith, unopened.long))) in
    ap (λ (zs : List ℕ). 1 ∷ zs) (sym (take-append-drop 16 (drop 1 bytes)) ∙ ap (λ (zs : List ℕ). zs ++ drop 16 (drop 1 bytes)) unopened.header_is ∙ ap (λ (zs : List ℕ). header ++ zs) last)

-- ---- what stands behind the gate

pub shut_image : (bytes image : List ℕ) → IsShut bytes → Torn 1 17 bytes image → IsFresh image
shut_image bytes image shut torn = inl (inr (inl (omega (arith, shut.no_longer, torn.no_longer), byte_same 0 image bytes torn.before ∙ shut.gate)))

shut_content : (bytes : List ℕ) → IsShut bytes → overwritten 1 (header ++ 0 ∷ []) bytes ≡ 0 ∷ header ++ 0 ∷ []
shut_content [] shut = absurd (omega (arith, shut.some))
shut_content (b ∷ bs) shut =
    ap (λ (c : ℕ). (c ∷ header ++ 0 ∷ []) ++ drop 18 (b ∷ bs)) (some_same b 0 shut.gate)
    ∙ ap (λ (zs : List ℕ). (0 ∷ header ++ 0 ∷ []) ++ zs) (drop_all 18 (b ∷ bs) (omega (arith, shut.no_longer)))

unopened_made : IsUnopened (0 ∷ header ++ 0 ∷ [])
unopened_made = record { long = refl; header_is = refl; gate = refl; shut = λ same. absurd (omega (arith, some_same 0 1 same)) }

pub then_unopened : (bytes : List ℕ) → IsShut bytes → IsUnopened (overwritten 1 (header ++ 0 ∷ []) bytes)
then_unopened bytes shut = subst IsUnopened (sym (shut_content bytes shut)) unopened_made

-- ---- the shut gate

pub short_image : (bytes image : List ℕ) → length bytes ≤ 1 → Torn 0 1 bytes image → IsFresh image
short_image bytes image short torn = inl (inl (omega (arith, short, torn.no_longer)))

short_content : (bytes : List ℕ) → length bytes ≤ 1 → overwritten 0 (0 ∷ []) bytes ≡ 0 ∷ []
short_content bytes short = ap (λ (zs : List ℕ). 0 ∷ zs) (drop_all 1 bytes short)

pub then_shut : (bytes : List ℕ) → length bytes ≤ 1 → IsShut (overwritten 0 (0 ∷ []) bytes)
then_shut bytes short =
    let made : IsShut (0 ∷ []) = record { some = omega arith; no_longer = omega arith; gate = refl } in
    subst IsShut (sym (short_content bytes short)) made

-- ---- where the disk may tell its bytes and its images

abbrev Fresh : List ℕ → List ℕ → Type 0
Fresh bytes image = IsFresh image

abbrev pub FreshSince : Option (List ℕ) → Option Crashes → Option Crashes → Type 0
FreshSince o x y = EachSince (λ bytes. IsFresh) o x y

-- a step of a disk with P, which leaves fresh images, fails or is gone on from
module _ (P : List ℕ → Type 0) (at : ℕ) (piece : List ℕ) (image_of : (bytes image : List ℕ) → P bytes → Torn at (length piece) bytes image → IsFresh image) where
  to_fresh : (o : Option (List ℕ)) → IfSome o P → IfSome o (λ bytes. (image : List ℕ) → Torn at (length piece) bytes image → IsFresh image)
  to_fresh o holds = told_map P (λ bytes. (image : List ℕ) → Torn at (length piece) bytes image → IsFresh image) o (λ bytes has image torn. image_of bytes image has torn) holds

  pub step_since : (o : Option (List ℕ)) (x y : Option Crashes) → IfSome o P → EachSince (Torn at (length piece)) o x y → FreshSince o x y
  step_since o x y holds since = since_as (Torn at (length piece)) Fresh o x y (to_fresh o holds) since

  same_fresh : (o : Option (List ℕ)) → IfSome o P → IfSome o (λ bytes. (image : List ℕ) → IsFresh image → IsFresh image)
  same_fresh o holds = told_map P (λ bytes. (image : List ℕ) → IsFresh image → IsFresh image) o (λ bytes has image fresh. fresh) holds

  pub steps_since : (o p : Option (List ℕ)) (x y z : Option Crashes) → IfSome o P → IfSome o (λ bytes. p ≡ Some (overwritten at piece bytes)) → EachSince (Torn at (length piece)) o x y → FreshSince p y z → FreshSince o x z
  steps_since o p x y z holds step first second = since_on (Torn at (length piece)) Fresh Fresh (overwritten at piece) o p x y z (to_fresh o holds) (same_fresh o holds) step first second
