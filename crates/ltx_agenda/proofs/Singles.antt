-- A number that stands once in a list: what taking it out and putting another before it make of the list.
use Rattle.std.proofs.Common.{◌≡◌, ◌≢◌, ℕ, zero, suc, ◌<◌, ◌≤◌, Bool, true, false, List, [], ◌∷◌, length, get_or, refl, ◌⊎◌, inl, inr, arith}
use Rattle.std.specs.List.{insert, remove}
use Rattle.std.proofs.lemmas.Bool.{cases_eq}
use Rattle.std.proofs.lemmas.Bool.Decides.{nat_tests}
use Rattle.ltx_model.specs.Listings.{is_member, without, insert_before, place_of}

-- the number stands at this place alone, if at all
abbrev pub StandsOnly : List ℕ → ℕ → ℕ → Type 0
StandsOnly xs n i = (j : ℕ) → get_or xs j 0 ≡ n → j ≡ i

-- the number stands nowhere
abbrev pub StandsNowhere : List ℕ → ℕ → Type 0
StandsNowhere xs n = (j : ℕ) → get_or xs j 0 ≡ n → ⊥

pub member_at : (xs : List ℕ) (n i : ℕ) → 0 < n → get_or xs i 0 ≡ n → is_member xs n ≡ true
member_at [] n i some is = absurd (omega arith)
member_at (x ∷ xs) n zero some is = grind (arith, nat_tests)
member_at (x ∷ xs) n (suc i) some is = let rest = member_at xs n i some is in grind (arith, nat_tests)

pub place_of_member : (xs : List ℕ) (n : ℕ) → is_member xs n ≡ true → get_or xs (place_of xs n) 0 ≡ n
place_of_member [] n is = cc
place_of_member (x ∷ xs) n is = by_case (cases_eq x n) (place_of_member xs n) where
  by_case : (x ≡ n) ⊎ (x ≡ n → ⊥) → (is_member xs n ≡ true → get_or xs (place_of xs n) 0 ≡ n) → get_or (x ∷ xs) (place_of (x ∷ xs) n) 0 ≡ n
  by_case (inl same) rest = grind (arith, nat_tests)
  by_case (inr apart) rest =
      let among : is_member xs n ≡ true = grind (arith, nat_tests) in
      let there = rest among in
      grind (arith, nat_tests)

pub member_nowhere : (xs : List ℕ) (n : ℕ) → StandsNowhere xs n → is_member xs n ≡ false
member_nowhere xs n never = by_case (is_member xs n) refl where
  by_case : (b : Bool) → is_member xs n ≡ b → is_member xs n ≡ false
  by_case true is = absurd (never _ (place_of_member xs n is))
  by_case false is = is

pub place_of_only : (xs : List ℕ) (n i : ℕ) → 0 < n → get_or xs i 0 ≡ n → StandsOnly xs n i → place_of xs n ≡ i
place_of_only xs n i some is only = only _ (place_of_member xs n (member_at xs n i some is))

pub without_nowhere : (xs : List ℕ) (n : ℕ) → StandsNowhere xs n → without xs n ≡ xs
without_nowhere [] n never = refl
without_nowhere (x ∷ xs) n never =
    let apart : x ≢ n = never 0 in
    let rest : without xs n ≡ xs = without_nowhere xs n (λ j is. never (suc j) is) in
    grind (arith, nat_tests)

pub without_only : (xs : List ℕ) (n i : ℕ) → 0 < n → get_or xs i 0 ≡ n → StandsOnly xs n i → without xs n ≡ remove xs i
without_only [] n i some is only = absurd (omega arith)
without_only (x ∷ xs) n zero some is only =
    let rest : without xs n ≡ xs = without_nowhere xs n (λ j at. absurd (let same_place = only (suc j) at in omega arith)) in
    grind (arith, nat_tests)
without_only (x ∷ xs) n (suc i) some is only =
    let apart : x ≢ n = λ same. let same_place = only 0 same in omega arith in
    let rest : without xs n ≡ remove xs i = without_only xs n i some is (λ j at. let same = only (suc j) at in omega arith) in
    grind (arith, nat_tests)

pub insert_before_only : (xs : List ℕ) (x n i : ℕ) → 0 < n → get_or xs i 0 ≡ n → StandsOnly xs n i → insert_before x n xs ≡ insert xs i x
insert_before_only [] y n i some is only = absurd (omega arith)
insert_before_only (x ∷ xs) y n zero some is only = grind (arith, nat_tests)
insert_before_only (x ∷ xs) y n (suc i) some is only =
    let apart : x ≢ n = λ same. let same_place = only 0 same in omega arith in
    let rest : insert_before y n xs ≡ insert xs i y = insert_before_only xs y n i some is (λ j at. let same = only (suc j) at in omega arith) in
    grind (arith, nat_tests)

-- where an element comes from after a removal, and after an insert
pub remove_at : (xs : List ℕ) (i j : ℕ) → i < length xs → ((j < i) × (get_or (remove xs i) j 0 ≡ get_or xs j 0)) ⊎ ((i ≤ j) × (get_or (remove xs i) j 0 ≡ get_or xs (suc j) 0))
remove_at [] i j within = absurd (omega arith)
remove_at (x ∷ xs) zero j within = inr (omega arith, refl)
remove_at (x ∷ xs) (suc i) zero within = inl (omega arith, refl)
remove_at (x ∷ xs) (suc i) (suc j) within = by_case (remove_at xs i j (omega arith)) where
  by_case : ((j < i) × (get_or (remove xs i) j 0 ≡ get_or xs j 0)) ⊎ ((i ≤ j) × (get_or (remove xs i) j 0 ≡ get_or xs (suc j) 0)) → ((suc j < suc i) × (get_or (remove (x ∷ xs) (suc i)) (suc j) 0 ≡ get_or (x ∷ xs) (suc j) 0)) ⊎ ((suc i ≤ suc j) × (get_or (remove (x ∷ xs) (suc i)) (suc j) 0 ≡ get_or (x ∷ xs) (suc (suc j)) 0))
  by_case (inl h) = inl (omega arith, h.1)
  by_case (inr h) = inr (omega arith, h.1)

pub insert_at : (xs : List ℕ) (i y j : ℕ) → i ≤ length xs → ((j < i) × (get_or (insert xs i y) j 0 ≡ get_or xs j 0)) ⊎ (((j ≡ i) × (get_or (insert xs i y) j 0 ≡ y)) ⊎ ((k : ℕ) × (j ≡ suc k) × (i ≤ k) × (get_or (insert xs i y) j 0 ≡ get_or xs k 0)))
insert_at xs zero y zero within = inr (inl (refl, refl))
insert_at xs zero y (suc j) within = inr (inr (j, refl, omega arith, refl))
insert_at [] (suc i) y j within = absurd (omega arith)
insert_at (x ∷ xs) (suc i) y zero within = inl (omega arith, refl)
insert_at (x ∷ xs) (suc i) y (suc j) within = by_case (insert_at xs i y j (omega arith)) where
  by_case : ((j < i) × (get_or (insert xs i y) j 0 ≡ get_or xs j 0)) ⊎ (((j ≡ i) × (get_or (insert xs i y) j 0 ≡ y)) ⊎ ((k : ℕ) × (j ≡ suc k) × (i ≤ k) × (get_or (insert xs i y) j 0 ≡ get_or xs k 0))) → ((suc j < suc i) × (get_or (insert (x ∷ xs) (suc i) y) (suc j) 0 ≡ get_or (x ∷ xs) (suc j) 0)) ⊎ (((suc j ≡ suc i) × (get_or (insert (x ∷ xs) (suc i) y) (suc j) 0 ≡ y)) ⊎ ((k : ℕ) × (suc j ≡ suc k) × (suc i ≤ k) × (get_or (insert (x ∷ xs) (suc i) y) (suc j) 0 ≡ get_or (x ∷ xs) k 0)))
  by_case (inl h) = inl (omega arith, h.1)
  by_case (inr (inl h)) = inr (inl (omega arith, h.1))
  by_case (inr (inr h)) = inr (inr (suc h.0, omega arith, omega arith, h.3))
