-- Searches over numbered items and over rising keys: the first of them is the least.
use Rattle.std.proofs.Common.{◌≡◌, ◌⊎◌, inl, inr, ℕ, ◌+◌, ◌<◌, Bool, true, false, cond, ◌||◌, List, [], ◌∷◌, ◌++◌, map, Some, refl, sym, ap, ◌∙◌, subst, arith, Contains}
use Rattle.std.specs.List.{find, AllByRecursion}
use Rattle.std.specs.declared.cmp.Ordering.TheVariants.{Less}
use Rattle.std.specs.Ordering.{is_le}
use Rattle.ltx_model.specs.Lists.{Numbered, numbered, numbered_from, IsPairwise}
use Rattle.ltx_model.specs.Keys.{Cell, cell_cmp, same_cell, AreAbove, IsRising, put_in_order}
use Rattle.ltx_model.specs.declared.rows.StoredRow.{StoredRow}
use Rattle.ltx_model.specs.StoredRows.{cell_of}
use Rattle.ltx_model.specs.Shorts.{cells_into, cells_of_both}
use Rattle.ltx_lemmas.proofs.Lists.{some_same, none_some, contains_here, contains_cases, contains_parts, contains_back, all_contains, find_passes}
use Rattle.ltx_model.proofs.CellOrder.{same_cell_same, cell_itself}
use Rattle.ltx_model.proofs.Rising.{rising_put}
use Rattle.ltx_lemmas.proofs.Searches.{is_in}
use Rattle.ltx_lemmas.proofs.Pairwise.{pairs_behind}

module _ {X : Type 0} where
  from_number : (m k : ℕ) (earlier xs : List X) → m < k → AllByRecursion (λ (o : Numbered X). m < o.number) (numbered_from k earlier xs)
  from_number m k earlier [] less = tt
  from_number m k earlier (x ∷ xs) less = (less, from_number m (k + 1) (earlier ++ x ∷ []) xs (let l : m < k + 1 = omega arith in l))

  pairs_numbered : (k : ℕ) (earlier xs : List X) → IsPairwise (λ (a b : Numbered X). a.number < b.number) (numbered_from k earlier xs)
  pairs_numbered k earlier [] = tt
  pairs_numbered k earlier (x ∷ xs) = (from_number k (k + 1) (earlier ++ x ∷ []) xs (let l : k < k + 1 = omega arith in l), pairs_numbered (k + 1) (earlier ++ x ∷ []) xs)

  -- the numbers of items rise
  pub numbered_rising : (xs : List X) → IsPairwise (λ (a b : Numbered X). a.number < b.number) (numbered xs)
  numbered_rising xs = pairs_numbered 1 [] xs

  -- numbers are counted from 1
  pub numbered_positive : (xs : List X) (o : Numbered X) → Contains (numbered xs) o → 0 < o.number
  numbered_positive xs o here = all_contains (λ (o : Numbered X). 0 < o.number) (numbered xs) o (from_number 0 1 [] xs (let l : 0 < 1 = omega arith in l)) here

  -- an item behind another has a greater number
  pub number_behind : (xs : List X) (front : List (Numbered X)) (item : Numbered X) (back : List (Numbered X)) (o : Numbered X) → numbered xs ≡ front ++ item ∷ back → Contains back o → item.number < o.number
  number_behind xs front item back o parts here = all_contains (λ (b : Numbered X). item.number < b.number) back o
      (pairs_behind (λ (a b : Numbered X). a.number < b.number) front item back (subst (λ l. IsPairwise (λ (a b : Numbered X). a.number < b.number) l) parts (numbered_rising xs))) here

  one_number : (os : List (Numbered X)) → IsPairwise (λ (a b : Numbered X). a.number < b.number) os → (a b : Numbered X) → Contains os a → Contains os b → a.number ≡ b.number → a ≡ b
  one_number [] rising a b here there same = absurd (Rattle.ltx_lemmas.proofs.Lists.contains_none a here)
  one_number (o ∷ os) rising a b here there same = by_place (contains_cases o os a here) (contains_cases o os b there) (λ h t. one_number os rising.1 a b h t same) where
    by_place : (o ≡ a) ⊎ Contains os a → (o ≡ b) ⊎ Contains os b → (Contains os a → Contains os b → a ≡ b) → a ≡ b
    by_place (inl p) (inl q) rec = sym p ∙ q
    by_place (inl p) (inr t) rec = absurd (let less : o.number < b.number = all_contains (λ (c : Numbered X). o.number < c.number) os b rising.0 t in let eq : o.number ≡ b.number = ap (λ (c : Numbered X). c.number) p ∙ same in let no : ⊥ = omega arith in no)
    by_place (inr h) (inl q) rec = absurd (let less : o.number < a.number = all_contains (λ (c : Numbered X). o.number < c.number) os a rising.0 h in let eq : o.number ≡ a.number = ap (λ (c : Numbered X). c.number) q ∙ sym same in let no : ⊥ = omega arith in no)
    by_place (inr h) (inr t) rec = rec h t

  -- an item is told by its number
  pub numbered_once : (xs : List X) (a b : Numbered X) → Contains (numbered xs) a → Contains (numbered xs) b → a.number ≡ b.number → a ≡ b
  numbered_once xs a b here there same = one_number (numbered xs) (numbered_rising xs) a b here there same

-- keys in rising order
abbrev pub AreRisingCells : List Cell → Type 0
AreRisingCells cells = IsRising (λ (c : Cell). c) cells

not_after : (x q : Cell) (xs : List Cell) → AreAbove (λ (c : Cell). c) x xs → (same_cell x q || is_in q xs) ≡ true → is_le (cell_cmp x q) ≡ true
not_after x q xs above here = by_test (same_cell x q) refl here where
  by_test : (b : Bool) → same_cell x q ≡ b → (b || is_in q xs) ≡ true → is_le (cell_cmp x q) ≡ true
  by_test true e h = subst (λ c. is_le (cell_cmp x c) ≡ true) (same_cell_same x q e) (ap is_le (cell_itself x))
  by_test false e h =
      let found = Rattle.ltx_lemmas.proofs.Lists.any_item (λ (c : Cell). same_cell c q) xs h in
      let less : cell_cmp x found.0 ≡ Less = all_contains (λ (c : Cell). cell_cmp x c ≡ Less) xs found.0 above found.1 in
      ap is_le (subst (λ c. cell_cmp x c ≡ Less) (same_cell_same found.0 q found.2) less)

-- the first of rising keys that passes a test is not after another that passes
pub first_not_after : (test : Cell → Bool) (cells : List Cell) (c q : Cell) → AreRisingCells cells → find test cells ≡ Some c → is_in q cells ≡ true → test q ≡ true → is_le (cell_cmp c q) ≡ true
first_not_after test [] c q rising is here passes = absurd (none_some is)
first_not_after test (x ∷ xs) c q rising is here passes = by_test (test x) refl is (λ h i. first_not_after test xs c q rising.1 h i passes) where
  by_cell : (b : Bool) → same_cell x q ≡ b → (b || is_in q xs) ≡ true → test x ≡ false → is_in q xs ≡ true
  by_cell true e h fails = absurd (let both : false ≡ true = sym fails ∙ ap test (same_cell_same x q e) ∙ passes in let no : ⊥ = cc in no)
  by_cell false e h fails = h

  by_test : (b : Bool) → test x ≡ b → cond b (Some x) (find test xs) ≡ Some c → (find test xs ≡ Some c → is_in q xs ≡ true → is_le (cell_cmp c q) ≡ true) → is_le (cell_cmp c q) ≡ true
  by_test true e h rec = subst (λ d. is_le (cell_cmp d q) ≡ true) (some_same h) (not_after x q xs rising.0 here)
  by_test false e h rec = rec h (by_cell (same_cell x q) refl here e)

-- keys of rising rows rise
rising_map : (rows : List StoredRow) → IsRising cell_of rows → AreRisingCells (map cell_of rows)
rising_map [] rising = tt
rising_map (row ∷ rows) rising = (Rattle.ltx_lemmas.proofs.Lists.all_mapped (λ (c : Cell). cell_cmp (cell_of row) c ≡ Less) cell_of rows rising.0, rising_map rows rising.1)

rising_into : (cells : List Cell) (rows : List StoredRow) → AreRisingCells cells → AreRisingCells (cells_into cells rows)
rising_into cells [] rising = rising
rising_into cells (row ∷ rows) rising = rising_into (put_in_order (λ (c : Cell). c) (cell_of row) cells) rows (rising_put (λ (c : Cell). c) (cell_of row) cells rising)

-- the keys of two maps rise
pub rising_both : (before now : List StoredRow) → IsRising cell_of before → AreRisingCells (cells_of_both before now)
rising_both before now rising = rising_into (map cell_of before) now (rising_map before rising)
