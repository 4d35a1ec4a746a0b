-- The first of something: of numbered items, of keys in rising order, and of batches in the order of their numbers.
use Rattle.std.proofs.Common.{◌≡◌, ◌⊎◌, inl, inr, ℕ, ◌+◌, ◌<◌, ◌≤◌, Bool, true, false, cond, ◌||◌, List, [], ◌∷◌, ◌++◌, Some, refl, sym, ap, ◌∙◌, subst, arith, is_le, Contains}
use Rattle.std.specs.List.{find, AllByRecursion}
use Rattle.ltx_model.specs.declared.writes.Write.{Write}
use Rattle.ltx_model.specs.Lists.{Numbered, numbered_from, numbered, IsPairwise}
use Rattle.ltx_model.specs.Keys.{Cell, cell_cmp, same_cell, put_in_order, AreAbove, IsRising}
use Rattle.ltx_model.specs.Operations.{Transaction, operations, cell_of_write, writes_of}
use Rattle.ltx_model.specs.Batches.{cells_written, cells_written_by}
use Rattle.ltx_lemmas.proofs.Lists.{all_map, all_contains, contains_parts, contains_cases, contains_none, some_same, none_some, true_false}
use Rattle.ltx_model.proofs.CellOrder.{same_cell_same, cell_itself}
use Rattle.ltx_model.proofs.Rising.{rising_put}
use Rattle.ltx_lemmas.proofs.Searches.{is_in}
use Rattle.ltx_lemmas.proofs.Pairwise.{pairs_behind}

-- numbered items
module _ {X : Type 0} where
  from_number : (k : ℕ) (earlier xs : List X) → AllByRecursion (λ o. k ≤ o.number) (numbered_from k earlier xs)
  from_number k earlier [] = tt
  from_number k earlier (x ∷ xs) = (own, all_map (λ o. k + 1 ≤ o.number) (λ o. k ≤ o.number) (λ o h. let less : k ≤ o.number = omega arith in less) (numbered_from (k + 1) (earlier ++ x ∷ []) xs) (from_number (k + 1) (earlier ++ x ∷ []) xs)) where
    own : k ≤ k
    own = omega arith

  rising_numbers : (k : ℕ) (earlier xs : List X) → IsPairwise (λ a b. a.number < b.number) (numbered_from k earlier xs)
  rising_numbers k earlier [] = tt
  rising_numbers k earlier (x ∷ xs) = (all_map (λ o. k + 1 ≤ o.number) (λ o. k < o.number) (λ o h. let less : k < o.number = omega arith in less) (numbered_from (k + 1) (earlier ++ x ∷ []) xs) (from_number (k + 1) (earlier ++ x ∷ []) xs), rising_numbers (k + 1) (earlier ++ x ∷ []) xs)

  pub numbered_rising : (xs : List X) → IsPairwise (λ a b. a.number < b.number) (numbered xs)
  numbered_rising xs = rising_numbers 1 [] xs

  -- an item of a list in three parts
  pub in_parts : (front : List X) (item : X) (back : List X) (at : X) → Contains (front ++ item ∷ back) at → Contains front at ⊎ ((item ≡ at) ⊎ Contains back at)
  in_parts front item back at here = by_part (contains_parts front (item ∷ back) at here) where
    by_part : Contains front at ⊎ Contains (item ∷ back) at → Contains front at ⊎ ((item ≡ at) ⊎ Contains back at)
    by_part (inl f) = inl f
    by_part (inr b) = inr (contains_cases item back at b)

  -- the items behind one have greater numbers
  pub behind_greater : (xs : List (Numbered X)) → IsPairwise (λ a b. a.number < b.number) xs → (front : List (Numbered X)) (item : Numbered X) (back : List (Numbered X)) → xs ≡ front ++ item ∷ back → (at : Numbered X) → Contains back at → item.number < at.number
  behind_greater xs pairs front item back parts at here = all_contains (λ o. item.number < o.number) back at (pairs_behind (λ a b. a.number < b.number) front item back (subst (IsPairwise (λ a b. a.number < b.number)) parts pairs)) here

-- two numbered items with one number are one
pub numbered_one : {X : Type 0} (xs : List (Numbered X)) → IsPairwise (λ a b. a.number < b.number) xs → (a b : Numbered X) → Contains xs a → Contains xs b → a.number ≡ b.number → a ≡ b
numbered_one [] pairs a b ha hb e = absurd (contains_none a ha)
numbered_one (x ∷ xs) pairs a b ha hb e = by_cases (contains_cases x xs a ha) (contains_cases x xs b hb) (numbered_one xs pairs.1 a b) where
  by_cases : (x ≡ a) ⊎ Contains xs a → (x ≡ b) ⊎ Contains xs b → (Contains xs a → Contains xs b → a.number ≡ b.number → a ≡ b) → a ≡ b
  by_cases (inl sa) (inl sb) later = sym sa ∙ sb
  by_cases (inl sa) (inr hb) later = absurd (
      let less : x.number < b.number = all_contains (λ o. x.number < o.number) xs b pairs.0 hb in
      let same : x.number ≡ a.number = ap (λ o. o.number) sa in
      let none : ⊥ = omega arith in none)
  by_cases (inr ha) (inl sb) later = absurd (
      let less : x.number < a.number = all_contains (λ o. x.number < o.number) xs a pairs.0 ha in
      let same : x.number ≡ b.number = ap (λ o. o.number) sb in
      let none : ⊥ = omega arith in none)
  by_cases (inr ha) (inr hb) later = later ha hb e

-- the first key that passes, of keys in rising order
pub first_key : (test : Cell → Bool) (c q : Cell) (cells : List Cell) → IsRising (λ x. x) cells → find test cells ≡ Some c → is_in q cells ≡ true → test q ≡ true → is_le (cell_cmp c q) ≡ true
first_key test c q [] rising e here passes = absurd (none_some e)
first_key test c q (x ∷ xs) rising e here passes = by_test (test x) refl e (first_key test c q xs rising.1) where
  above : (ys : List Cell) → AreAbove (λ y. y) x ys → is_in q ys ≡ true → is_le (cell_cmp x q) ≡ true
  above [] all e = cc
  above (y ∷ ys) all e = by_same (same_cell y q) refl e (above ys all.1) where
    by_same : (b : Bool) → same_cell y q ≡ b → (b || is_in q ys) ≡ true → (is_in q ys ≡ true → is_le (cell_cmp x q) ≡ true) → is_le (cell_cmp x q) ≡ true
    by_same true is e later = ap is_le (ap (cell_cmp x) (sym (same_cell_same y q is)) ∙ all.0)
    by_same false is e later = later e

  at_head : (b : Bool) → same_cell x q ≡ b → (b || is_in q xs) ≡ true → is_le (cell_cmp x q) ≡ true
  at_head true is e = ap is_le (ap (cell_cmp x) (sym (same_cell_same x q is)) ∙ cell_itself x)
  at_head false is e = above xs rising.0 e

  not_head : (b : Bool) → same_cell x q ≡ b → test x ≡ false → (b || is_in q xs) ≡ true → is_in q xs ≡ true
  not_head true is fails e = absurd (true_false (sym passes ∙ ap test (sym (same_cell_same x q is)) ∙ fails))
  not_head false is fails e = e

  by_test : (b : Bool) → test x ≡ b → cond b (Some x) (find test xs) ≡ Some c → (find test xs ≡ Some c → is_in q xs ≡ true → test q ≡ true → is_le (cell_cmp c q) ≡ true) → is_le (cell_cmp c q) ≡ true
  by_test true is e later = subst (λ y. is_le (cell_cmp y q) ≡ true) (some_same e) (at_head (same_cell x q) refl here)
  by_test false is e later = later e (not_head (same_cell x q) refl is here) passes

-- the keys that transactions write stand in rising order
written_rising : (cells : List Cell) (ws : List Write) → IsRising (λ x. x) cells → IsRising (λ x. x) (cells_written cells ws)
written_rising cells [] rising = rising
written_rising cells (w ∷ ws) rising = written_rising (put_in_order (λ c. c) (cell_of_write w) cells) ws (rising_put (λ c. c) (cell_of_write w) cells rising)

pub written_by_rising : (cells : List Cell) (ts : List Transaction) → IsRising (λ x. x) cells → IsRising (λ x. x) (cells_written_by cells ts)
written_by_rising cells [] rising = rising
written_by_rising cells (t ∷ ts) rising = written_by_rising (cells_written cells (writes_of (operations t))) ts (written_rising cells (writes_of (operations t)) rising)

-- the first that passes, of items in the order of their numbers, has the least number
pub find_least : {A : Type 0} (number : A → ℕ) (test : A → Bool) (x y : A) (xs : List A) → IsPairwise (λ a b. number a < number b) xs → find test xs ≡ Some x → Contains xs y → test y ≡ true → number x ≤ number y
find_least number test x y [] pairs e here passes = absurd (none_some e)
find_least number test x y (z ∷ zs) pairs e here passes = by_test (test z) refl e (find_least number test x y zs pairs.1) where
  at_head : (z ≡ y) ⊎ Contains zs y → number z ≤ number y
  at_head (inl same) = let is : number z ≡ number y = ap number same in let h : number z ≤ number y = omega arith in h
  at_head (inr there) = let less : number z < number y = all_contains (λ b. number z < number b) zs y pairs.0 there in let h : number z ≤ number y = omega arith in h

  not_head : test z ≡ false → (z ≡ y) ⊎ Contains zs y → Contains zs y
  not_head fails (inl same) = absurd (true_false (sym passes ∙ ap test (sym same) ∙ fails))
  not_head fails (inr there) = there

  by_test : (b : Bool) → test z ≡ b → cond b (Some z) (find test zs) ≡ Some x → (find test zs ≡ Some x → Contains zs y → test y ≡ true → number x ≤ number y) → number x ≤ number y
  by_test true is e later = subst (λ v. number v ≤ number y) (some_same e) (at_head (contains_cases z zs y here))
  by_test false is e later = later e (not_head is (contains_cases z zs y here)) passes
