-- The earliest of some numbers from a place on, and those between two places: one number more.
use Rattle.std.proofs.Common.{◌≡◌, ◌⊎◌, inl, inr, ℕ, ◌+◌, ◌<◌, ◌≤◌, List, [], ◌∷◌, ◌++◌, length, get_or, take, Option, Some, None, refl, sym, ap, ◌∙◌, subst, arith, Contains}
use Rattle.std.proofs.lemmas.List.{take_more, take_all}
use Rattle.ltx_model.specs.Listings.{place_of}
use Rattle.ltx_lemmas.proofs.Lists.{contains_none, contains_here, contains_back, contains_cases, contains_parts}
use Rattle.ltx_forward.specs.Contradicted.{IsEarliestFrom, IsFoundFrom}

-- an item of a list with one item more
one_more : {A : Type 0} (xs : List A) (x y : A) → Contains (xs ++ x ∷ []) y → Contains xs y ⊎ (x ≡ y)
one_more {A} xs x y c = by_part (contains_parts xs (x ∷ []) y c) where
  by_part : Contains xs y ⊎ Contains (x ∷ []) y → Contains xs y ⊎ (x ≡ y)
  by_part (inl d) = inl d
  by_part (inr d) = by_case (contains_cases x [] y d) where
    by_case : (x ≡ y) ⊎ Contains [] y → Contains xs y ⊎ (x ≡ y)
    by_case (inl e) = inr e
    by_case (inr none) = absurd (contains_none y none)

-- the front of a list that one item more is in
pub front_more : {A : Type 0} (xs : List A) (k : ℕ) (x : A) → k < length xs → x ≡ get_or xs k x → take (k + 1) xs ≡ take k xs ++ x ∷ []
front_more xs k x within is = take_more xs k x within ∙ ap (λ y. take k xs ++ y ∷ []) (sym is)

pub front_all : {A : Type 0} (xs : List A) (k : ℕ) → length xs ≤ k → take k xs ≡ xs
front_all xs k past = take_all k xs past

module _ (list : List ℕ) (p : ℕ) where
  -- one that is p or stands after it, and stands before the earliest so far, is the earliest
  pub earliest_is : (ns : List ℕ) (o : Option ℕ) (m : ℕ) → place_of list p ≤ place_of list m → ((n : ℕ) → o ≡ Some n → place_of list m < place_of list n) → IsFoundFrom list p ns o → IsEarliestFrom list p (ns ++ m ∷ []) m
  earliest_is ns o m from earlier found = record {
    one = contains_back ns (m ∷ []) m (contains_here m []);
    after = from;
    earliest = λ k c least. by_item o earlier found k least (one_more ns m k c);
  } where
    by_item : (o : Option ℕ) → ((n : ℕ) → o ≡ Some n → place_of list m < place_of list n) → IsFoundFrom list p ns o → (k : ℕ) → place_of list p ≤ place_of list k → Contains ns k ⊎ (m ≡ k) → place_of list m ≤ place_of list k
    by_item o earlier found k least (inr e) = subst (λ j. place_of list m ≤ place_of list j) e (omega arith)
    by_item None earlier found k least (inl c) = let less = found k c in absurd (let no : ⊥ = omega (arith, less, least) in no)
    by_item (Some n) earlier found k least (inl c) = let less = earlier n refl in let rest = found.earliest k c least in omega (arith, less, rest)

  -- none of the numbers, and not one more, stands between p and r
  pub none_more : (r : ℕ) (ns : List ℕ) (m : ℕ) → ((n : ℕ) → Contains ns n → place_of list p ≤ place_of list n → place_of list r ≤ place_of list n) → (place_of list p ≤ place_of list m → place_of list r ≤ place_of list m)
      → (n : ℕ) → Contains (ns ++ m ∷ []) n → place_of list p ≤ place_of list n → place_of list r ≤ place_of list n
  none_more r ns m none own n c = by_item (one_more ns m n c) where
    by_item : Contains ns n ⊎ (m ≡ n) → place_of list p ≤ place_of list n → place_of list r ≤ place_of list n
    by_item (inl d) = none n d
    by_item (inr e) = subst (λ j. place_of list p ≤ place_of list j → place_of list r ≤ place_of list j) e own
