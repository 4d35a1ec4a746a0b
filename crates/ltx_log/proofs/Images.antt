-- What a crash leaves in a write and a sync behind which nothing was pending.
use Rattle.std.proofs.Common.{◌≡◌, ◌≤◌, ◌<◌, ◌+◌, ◌⊎◌, inl, inr, ⊎_elim, ℕ, List, [], ◌∷◌, ◌++◌, length, drop, refl, sym, ap, ◌∙◌, subst, arith, append_assoc, Option, Some, None}
use Rattle.std.specs.Prelude.{Bool, false, is_err, Result, Ok, Err, slice_get, get_or, max, IsFalse, IfSome, IfNone, IsSomeAnd, OnOk, OnErr}
use Rattle.std.proofs.lemmas.List.{append-nil, drop_all, drop-drop, drop_at, length-drop}
use Rattle.std.proofs.lemmas.Bool.{cases_lt}
use Rattle.std.proofs.lemmas.Bool.Decides.{nat_tests}
use Rattle.std.proofs.lemmas.List.Elements.{All-append}
use Rattle.ltx_outside.specs.Contents.{overwritten}
use Rattle.ltx_model.specs.Disks.{Images, Crashes, IsImage, IsSettled, EachImage, Leaves, Torn, only, wrote, synced, is_written}
use Rattle.ltx_outside.proofs.Bytes.{front_same, back_same, overwritten_before, overwritten_from, length-overwritten}

pub only_settled : (bytes : List ℕ) → IsSettled bytes (only bytes)
only_settled bytes = record { fixed = refl; longest = refl; still = λ place inside. refl }

-- where nothing is pending there is one image
pub settled_image : (bytes image : List ℕ) (images : Images) → IsSettled bytes images → IsImage images image → image ≡ bytes
settled_image bytes image images settled left =
    let size : length images.fixed ≡ length bytes = ap length settled.fixed in
    back_same 0 image bytes (omega (arith, size, settled.longest, left.no_shorter, left.no_longer))
    (λ place from inside. left.same place (omega (arith, size, inside)) (settled.still place inside) ∙ ap (λ (xs : List ℕ). slice_get xs place) settled.fixed)

-- outside the newest range
outside : (at count place : ℕ) (ranges : List (ℕ × ℕ)) → (place < at) ⊎ (at + count ≤ place) → IsFalse (is_written ranges place) → IsFalse (is_written ((at, count) ∷ ranges) place)
outside at count place ranges out still = ⊎_elim (λ before. grind (arith, nat_tests)) (λ behind. grind (arith, nat_tests)) out

-- where nothing was pending, a write leaves all bytes but those of its range as they are
pub wrote_image : (at count : ℕ) (bytes image : List ℕ) (old : Crashes) → at ≤ length bytes → IsSettled bytes old.now → IsImage (wrote at count old).now image → Torn at count bytes image
wrote_image at count bytes image old within settled left =
    let size : length old.now.fixed ≡ length bytes = ap length settled.fixed in
    let same : (place : ℕ) → place < length bytes → (place < at) ⊎ (at + count ≤ place) → slice_get image place ≡ slice_get bytes place =
    λ place inside out. left.same place (omega (arith, size, inside)) (outside at count place old.now.written out (settled.still place inside)) ∙ ap (λ (xs : List ℕ). slice_get xs place) settled.fixed in
    let no_shorter : length bytes ≤ length image = omega (arith, size, left.no_shorter) in
    let no_longer : length image ≤ max (length bytes) (at + count) = omega (arith, settled.longest, left.no_longer) in
    record {
      before = front_same at image bytes (omega (arith, within, no_shorter)) within (λ place before. same place (omega (arith, before, within)) (inl before));
      behind = ⊎_elim
          (λ inside. back_same (at + count) image bytes (omega (arith, no_shorter, no_longer, inside)) (λ place from in_bytes. same place in_bytes (inr from)))
          (λ past. drop_all (at + count) image (omega (arith, no_longer, past)) ∙ sym (drop_all (at + count) bytes past))
          (cases_lt (at + count) (length bytes));
      no_shorter = no_shorter;
      no_longer = no_longer;
    }

torn_itself : (at count : ℕ) (bytes : List ℕ) → Torn at count bytes bytes
torn_itself at count bytes = record { before = refl; behind = refl; no_shorter = omega arith; no_longer = omega arith }

-- the bytes of a write are one of its images
torn_done : (at : ℕ) (piece bytes : List ℕ) → at ≤ length bytes → Torn at (length piece) bytes (overwritten at piece bytes)
torn_done at piece bytes within =
    let from : drop at (overwritten at piece bytes) ≡ piece ++ drop (at + length piece) bytes = overwritten_from at piece bytes within in
    let whole : length (overwritten at piece bytes) ≡ at + length piece + length (drop (at + length piece) bytes) = length-overwritten at piece bytes within in
    record {
      before = overwritten_before at piece bytes within;
      behind = sym (drop-drop (length piece) at (overwritten at piece bytes)) ∙ ap (drop (length piece)) from ∙ drop_at piece (drop (at + length piece) bytes) (length piece) refl;
      no_shorter = omega (arith, whole, within, length-drop (at + length piece) bytes);
      no_longer = omega (arith, whole, within, length-drop (at + length piece) bytes);
    }

-- no call yet
pub leaves_itself : (P : List ℕ → Type 0) (crashes : Crashes) → EachImage P crashes.now → Leaves P crashes crashes
leaves_itself P crashes now = record { more = []; past = sym (append-nil crashes.past); since = λ k images below. absurd (omega (arith, below)); now = now }

-- two parts of a call
pub leaves_on : (P Q R : List ℕ → Type 0) (a b c : Crashes) → ((image : List ℕ) → P image → R image) → ((image : List ℕ) → Q image → R image) → Leaves P a b → Leaves Q b c → Leaves R a c
leaves_on P Q R a b c from_P from_Q first second = record {
  more = first.more ++ second.more;
  past = second.past ∙ ap (λ (past : List Images). past ++ second.more) first.past ∙ append_assoc a.past first.more second.more;
  since = All-append (EachImage R) first.more second.more
      (λ k images below image left. from_P image (first.since k images below image left))
      (λ k images below image left. from_Q image (second.since k images below image left));
  now = λ image left. from_Q image (second.now image left);
}

-- the write and the sync, by their outcomes
module _ (at : ℕ) (piece bytes : List ℕ) (old : Crashes) (within : at ≤ length bytes) (settled : IsSettled bytes old.now) where
  abbrev torn_of : Crashes → Type 0
  torn_of new = Leaves (Torn at (length piece) bytes) old new

  still : torn_of old
  still = leaves_itself (Torn at (length piece) bytes) old (λ image left.
      subst (Torn at (length piece) bytes) (sym (settled_image bytes image old.now settled left)) (torn_itself at (length piece) bytes))

  written : torn_of (wrote at (length piece) old)
  written = record {
    more = [];
    past = sym (append-nil old.past);
    since = λ k images below. absurd (omega (arith, below));
    now = λ image left. wrote_image at (length piece) bytes image old within settled left;
  }

  done : torn_of (synced (overwritten at piece bytes) (wrote at (length piece) old))
  done = record {
    more = (wrote at (length piece) old).now ∷ [];
    past = refl;
    since = λ k images below image left.
        let first : k ≡ 0 = omega (arith, below) in
        wrote_image at (length piece) bytes image old within settled
        (subst (λ (i : ℕ). IsImage (get_or ((wrote at (length piece) old).now ∷ []) i images) image) first left);
    now = λ image left. subst (Torn at (length piece) bytes) (sym (settled_image (overwritten at piece bytes) image (only (overwritten at piece bytes)) (only_settled (overwritten at piece bytes)) left)) (torn_done at piece bytes within);
  }

-- the clause on a write and a sync, where the disk tells what it is about
abbrev pub SinceClause : ℕ → List ℕ → Option (List ℕ) → Option Crashes → Option Crashes → Type 0
SinceClause at piece o x y = IfSome o (λ bytes. IfSome x (λ old. IsSomeAnd y (Leaves (Torn at (length piece) bytes) old)))

pub at_told : (P : Crashes → Type 0) (y : Option Crashes) (new : Crashes) → y ≡ Some new → P new → IsSomeAnd y P
at_told P y new is holds = subst (λ z. IsSomeAnd z P) (sym is) holds

module _ (at : ℕ) (piece : List ℕ) where
  pub write_exit : (o p : Option (List ℕ)) (x y : Option Crashes) → IfSome o (λ bytes. at ≤ length bytes) → IfSome o (λ bytes. IfSome x (λ told. IsSettled bytes told.now))
      → IfSome x (λ old. ((y ≡ Some old) × (p ≡ o)) ⊎ (y ≡ Some (wrote at (length piece) old))) → SinceClause at piece o x y
  write_exit None p x y within settled torn = tt
  write_exit (Some bytes) p None y within settled torn = tt
  write_exit (Some bytes) p (Some old) y within settled torn = ⊎_elim
      (λ same. at_told (Leaves (Torn at (length piece) bytes) old) y old same.0 (still at piece bytes old within settled))
      (λ counts. at_told (Leaves (Torn at (length piece) bytes) old) y (wrote at (length piece) old) counts (written at piece bytes old within settled))
      torn

  pub sync_exit : {T E : Type 0} (result : Result T E) (o p : Option (List ℕ)) (x y z : Option Crashes) → IfSome o (λ bytes. at ≤ length bytes) → IfSome o (λ bytes. IfSome x (λ told. IsSettled bytes told.now))
      → IfSome o (λ bytes. p ≡ Some (overwritten at piece bytes)) → IfSome x (λ old. y ≡ Some (wrote at (length piece) old))
      → OnOk result (IfSome p (λ bytes. IfSome y (λ old. z ≡ Some (synced bytes old)))) → OnErr result (z ≡ y) → SinceClause at piece o x z
  sync_exit result None p x y z within settled is counts has hasnt = tt
  sync_exit result (Some bytes) p None y z within settled is counts has hasnt = tt
  sync_exit (Ok v) (Some bytes) p (Some old) y z within settled is counts has hasnt =
      let told : IfSome y (λ mid. z ≡ Some (synced (overwritten at piece bytes) mid)) = subst (λ q. IfSome q (λ bytes. IfSome y (λ mid. z ≡ Some (synced bytes mid)))) is has in
      at_told (Leaves (Torn at (length piece) bytes) old) z _ (subst (λ q. IfSome q (λ mid. z ≡ Some (synced (overwritten at piece bytes) mid))) counts told) (done at piece bytes old within settled)
  sync_exit (Err e) (Some bytes) p (Some old) y z within settled is counts has hasnt =
      at_told (Leaves (Torn at (length piece) bytes) old) z _ (hasnt ∙ counts) (written at piece bytes old within settled)

-- nothing is pending, where the disk tells what it is about
abbrev pub SettledClause : Option (List ℕ) → Option Crashes → Type 0
SettledClause o x = IfSome o (λ bytes. IfSome x (λ told. IsSettled bytes told.now))

pub sync_settles : (p : Option (List ℕ)) (y z : Option Crashes) → IfSome p (λ bytes. IfSome y (λ old. z ≡ Some (synced bytes old))) → IfNone y (z ≡ None) → SettledClause p z
sync_settles None y z fixed secret = tt
sync_settles (Some bytes) None z fixed secret = subst (SettledClause (Some bytes)) (sym secret) tt
sync_settles (Some bytes) (Some old) z fixed secret = subst (SettledClause (Some bytes)) (sym fixed) (only_settled bytes)

-- what a call that didn't fail ensures
pub ok_holds : {T E : Type 0} (result : Result T E) (P : Type 0) (failed : Bool) → failed ≡ is_err result → failed ≡ false → OnOk result P → P
ok_holds (Ok v) P failed value is holds = holds
ok_holds (Err e) P failed value is holds = absurd (grind (arith, value, is))

-- bytes that are told stay what they were
pub told_same : (P : List ℕ → Type 0) (o p : Option (List ℕ)) → o ≡ p → IfSome o P → IfSome p P
told_same P o p same holds = subst (λ q. IfSome q P) same holds
