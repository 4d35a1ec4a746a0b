-- A kept commit is found by its stamp.
use Rattle.std.proofs.Common.{◌≡◌, ℕ, zero, suc, ◌+◌, ◌<◌, ◌≤◌, ◌==◌, ltb, Bool, true, false, cond, if◌then◌else◌, List, [], ◌∷◌, ◌++◌, length, get_or, take, map, filter, Option, Some, None, refl, sym, ap, ◌∙◌, arith}
use Rattle.std.specs.Prelude.{slice_get}
use Rattle.std.specs.List.{AllByRecursion, AllWithin}
use Rattle.std.specs.List.Sorted.{IsNonDecreasingBy}
use Rattle.std.proofs.lemmas.List.Elements.{All-from_recursion}
use Rattle.std.proofs.lemmas.Bool.{ne_eqb, ltb-true, ltb-false}
use Rattle.ltx_reads.specs.Stamped.{Stamped, kept_at, if_stamp, AreRising}
use Rattle.ltx_reads.proofs.Ties.{absent_above, all_weaker}

-- rising stamps in the form of a binary search
pub rises : (xs : List Stamped) → AreRising xs → IsNonDecreasingBy (λ e. e.stamp) xs
rises [] r i j d le lt = absurd (omega arith)
rises (x ∷ xs) r zero zero d le lt = omega arith
rises (x ∷ xs) r zero (suc j) d le lt = let above = All-from_recursion _ xs r.0 j d (omega arith) in omega arith
rises (x ∷ xs) r (suc i) zero d le lt = absurd (omega arith)
rises (x ∷ xs) r (suc i) (suc j) d le lt = rises xs r.1 i j d (omega arith) (omega arith)

pub found_at : (xs : List Stamped) (s n : ℕ) → n ≤ length xs → AreRising xs → AllWithin (λ e. ltb e.stamp s ≡ true) xs 0 n → AllWithin (λ e. ltb e.stamp s ≡ false) xs n (length xs)
    → if_stamp s (slice_get xs n) ≡ kept_at xs s
found_at [] s zero le r pass fail = refl
found_at [] s (suc n) le r pass fail = refl
found_at (x ∷ xs) s zero le r pass fail = by_test (x.stamp == s) where
  reached : s ≤ x.stamp
  reached = ltb-false x.stamp s (fail 0 x (omega arith) (omega arith))

  by_test : (b : Bool) → (if b then Some x else None) ≡ cond b (Some x) (kept_at xs s)
  by_test true = refl
  by_test false = sym (absent_above xs s (all_weaker (λ e. x.stamp < e.stamp) (λ e. s < e.stamp) (λ e less. let at = reached in omega arith) xs r.0))
found_at (x ∷ xs) s (suc n) le r pass fail =
    let less : x.stamp < s = ltb-true x.stamp s (pass 0 x (omega arith) (omega arith)) in
    let no : (x.stamp == s) ≡ false = ne_eqb x.stamp s (λ same. omega arith) in
    found_at xs s n (omega arith) r.1 (λ k d a b. pass (suc k) d (omega arith) (omega arith)) (λ k d a b. fail (suc k) d (omega arith) (omega arith)) ∙ sym (ap (λ b. cond b (Some x) (kept_at xs s)) no)
