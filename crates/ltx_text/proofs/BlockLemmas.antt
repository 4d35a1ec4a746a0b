-- The bytes that a block holds, after a read behind them or a step of their front.
use Rattle.std.proofs.Common.{◌≡◌, ℕ, ◌+◌, ◌-◌, ◌≤◌, Vec, Global, List, ◌++◌, length, take, drop, min, slice_range, inl, inr, refl, sym, ap, ◌∙◌, arith}
use Rattle.std.proofs.lemmas.List.{append-nil, take_at, drop_at, take-append-le, drop-append-le, drop-take, drop-drop, length-append, length-take, length-take-le, length-drop, take_all, with_items_is}
use Rattle.std.proofs.lemmas.Bool.{cases_lt}
use Rattle.std.specs.Vec.{with_items}
use borrow.Rule.Slice.PartMut.{put_mid, post_of}
use lib.Seq.{take-add}

-- the first n bytes of what was written behind a part come behind it
pub part_grown : (xs ys : List ℕ) (start end k n : ℕ) → start ≤ end → end ≤ length xs → n ≤ length ys
    → slice_range (put_mid end k xs ys) start (end + n) ≡ slice_range xs start end ++ take n ys
part_grown xs ys start end k n ordered within fits =
    let front = length-take-le end xs within in
    let part = drop start (take end xs) in
    let len : length part ≡ end - start = omega (arith, length-drop start (take end xs)) in
    let sum : end + n - start ≡ (end - start) + n = omega arith in
    let parts : end ≡ start + (end - start) = omega arith in
    let same : part ≡ take (end - start) (drop start xs) = ap (λ j. drop start (take j xs)) parts ∙ drop-take start (end - start) xs in
    let after = ys ++ post_of end k xs in
    ap (take (end + n - start)) (drop-append-le start (take end xs) after (omega arith))
    ∙ ap (λ j. take j (part ++ after)) sum ∙ take-add (end - start) n (part ++ after)
    ∙ (rw (take_at part after _ len, drop_at part after _ len, take-append-le n ys (post_of end k xs) fits, same) refl)

-- what was written behind a part leaves it
pub part_kept : (xs ys : List ℕ) (start end k : ℕ) → start ≤ end → end ≤ length xs
    → slice_range (put_mid end k xs ys) start end ≡ slice_range xs start end
part_kept xs ys start end k ordered within =
    let none : end ≡ end + 0 = omega arith in
    ap (slice_range (put_mid end k xs ys) start) none ∙ part_grown xs ys start end k 0 ordered within (omega arith) ∙ append-nil _

-- a part that begins later is the part without its first bytes
pub part_skipped : (xs : List ℕ) (start end count : ℕ) → start + count ≤ end
    → slice_range xs (start + count) end ≡ drop count (slice_range xs start end)
part_skipped xs start end count inside =
    let parts : end - start ≡ count + (end - (start + count)) = omega arith in
    sym (ap (λ j. drop count (take j (drop start xs))) parts ∙ drop-take count _ (drop start xs)
    ∙ ap (take (end - (start + count))) (drop-drop count start xs))

put-length : (xs ys : List ℕ) (end k : ℕ) → length ys ≡ k → end + k ≤ length xs → length (put_mid end k xs ys) ≡ length xs
put-length xs ys end k len within =
    omega (arith, len, within, length-append (take end xs) (ys ++ post_of end k xs), length-append ys (post_of end k xs), length-take end xs, length-drop k (drop end xs), length-drop end xs)

-- what a vector holds in a part, after a write behind that part
pub part_written : (v : Vec ℕ Global) (d new : List ℕ) (start end stop most : ℕ) → d ≡ v.items → end + most ≤ v.len
    → length new ≡ length (take (end + most - end) (drop end d)) → slice_range (with_items v (put_mid end (end + most - end) d new)).items start stop ≡ slice_range (put_mid end (end + most - end) d new) start stop
part_written v d new start end stop most is within len =
    let k : end + most - end ≡ most = omega arith in
    let whole : length d ≡ v.len = ap length is ∙ sym v.ok.0 in
    let count : length new ≡ end + most - end = omega (arith, len, k, whole, within, length-take (end + most - end) (drop end d), length-drop end d) in
    let all : length (put_mid end (end + most - end) d new) ≡ v.len = put-length d new end (end + most - end) count (omega (arith, k, whole, within)) ∙ whole in
    ap (λ (xs : List ℕ). slice_range xs start stop) (with_items_is v (put_mid end (end + most - end) d new) all)

pub take-least : (n m : ℕ) (xs : List ℕ) → m ≡ min (length xs) n → take m xs ≡ take n xs
take-least n m xs least =
    elim (cases_lt n (length xs)) [
      | inl below ↦ let same : m ≡ n = omega (arith, least, below) in ap (λ (k : ℕ). take k xs) same
      | inr past ↦ take_all m xs (omega (arith, least, past)) ∙ sym (take_all n xs past)
    ]
