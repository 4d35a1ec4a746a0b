-- The members that pass a test, one after another in the order of the agenda.
use Rattle.std.proofs.Common.{◌≡◌, ◌≢◌, ◌⊎◌, inl, inr, ℕ, zero, suc, ◌-◌, ◌<◌, ◌≤◌, Bool, true, false, cond, ◌||◌, ◌==◌, List, [], ◌∷◌, ◌++◌, length, map, filter, Option, Some, None, refl, sym, ap, ◌∙◌, subst, arith, Contains}
use Rattle.std.proofs.lemmas.Bool.{eqb-true, eq-eqb, both_ways}
use Rattle.std.specs.List.{AllByRecursion, list_any}
use Rattle.ltx_model.specs.Lists.{IsPairwise}
use Rattle.ltx_model.specs.Listings.{is_member, place_of}
use Rattle.ltx_model.specs.Explained.{IsDistinct}
use Rattle.ltx_agenda.proofs.Joined.{place_of_within}
use Rattle.ltx_lemmas.proofs.Lists.{true_false, none_some, any_contains, all_push, all_from, all_contains, contains_none, contains_here, contains_later, contains_cases, contains_front, contains_back}
use Rattle.ltx_forward.specs.Earliest.{Improves, IsAtMost, Ahead, IsAfter}

-- ---- lists in order

-- one more behind all others
pairs_push : {A : Type 0} (R : A → A → Type 0) (xs : List A) (y : A) → IsPairwise R xs → AllByRecursion (λ x. R x y) xs → IsPairwise R (xs ++ y ∷ [])
pairs_push R [] y pairs all = (tt, tt)
pairs_push R (x ∷ xs) y pairs all = (all_push (R x) xs y pairs.0 all.0, pairs_push R xs y pairs.1 all.1)

-- two lists in one strict order that have the same items are one
pub one_order : (f : ℕ → ℕ) (xs ys : List ℕ) → IsPairwise (λ a b. f a < f b) xs → IsPairwise (λ a b. f a < f b) ys → ((n : ℕ) → Contains xs n → Contains ys n) → ((n : ℕ) → Contains ys n → Contains xs n) → xs ≡ ys
one_order f [] [] ox oy there back = refl
one_order f [] (y ∷ ys) ox oy there back = absurd (contains_none y (back y (contains_here y ys)))
one_order f (x ∷ xs) [] ox oy there back = absurd (contains_none x (there x (contains_here x xs)))
one_order f (x ∷ xs) (y ∷ ys) ox oy there back = by_heads (contains_cases y ys x (there x (contains_here x xs))) (contains_cases x xs y (back y (contains_here y ys))) (one_order f xs ys ox.1 oy.1) where
  tail_of : (a b : ℕ) (ks ls : List ℕ) → a ≡ b → AllByRecursion (λ c. f a < f c) ks → ((n : ℕ) → Contains (a ∷ ks) n → Contains (b ∷ ls) n) → (n : ℕ) → Contains ks n → Contains ls n
  tail_of a b ks ls same above there n here = by_case (contains_cases b ls n (there n (contains_later a ks n here))) where
    by_case : (b ≡ n) ⊎ Contains ls n → Contains ls n
    by_case (inl e) =
        let less : f a < f n = all_contains (λ c. f a < f c) ks n above here in
        let equal : f a ≡ f n = ap f (same ∙ e) in
        absurd (omega (arith, less, equal))
    by_case (inr c) = c

  joined : x ≡ y → (((n : ℕ) → Contains xs n → Contains ys n) → ((n : ℕ) → Contains ys n → Contains xs n) → xs ≡ ys) → x ∷ xs ≡ y ∷ ys
  joined same later = ap (λ z. z ∷ xs) same ∙ ap (λ zs. y ∷ zs) (later (tail_of x y xs ys same ox.0 there) (tail_of y x ys xs (sym same) oy.0 back))

  by_heads : (y ≡ x) ⊎ Contains ys x → (x ≡ y) ⊎ Contains xs y → (((n : ℕ) → Contains xs n → Contains ys n) → ((n : ℕ) → Contains ys n → Contains xs n) → xs ≡ ys) → x ∷ xs ≡ y ∷ ys
  by_heads (inl e) h later = joined (sym e) later
  by_heads (inr c) (inl e) later = joined e later
  by_heads (inr c) (inr d) later =
      let less : f y < f x = all_contains (λ z. f y < f z) ys x oy.0 c in
      let more : f x < f y = all_contains (λ z. f x < f z) xs y ox.0 d in
      absurd (omega (arith, less, more))

-- the places in a list without repetition rise
places_rise : (xs : List ℕ) → IsDistinct xs → IsPairwise (λ a b. place_of xs a < place_of xs b) xs
places_rise [] apart = tt
places_rise (x ∷ xs) apart = (all_from (λ b. place_of (x ∷ xs) x < place_of (x ∷ xs) b) xs first, lifted xs (λ b here. here) (places_rise xs apart.1)) where
  other : (b : ℕ) → Contains xs b → (x == b) ≡ false
  other b here = by_test (x == b) refl where
    by_test : (t : Bool) → (x == b) ≡ t → (x == b) ≡ false
    by_test false e = e
    by_test true e = absurd (both_ways (list_any (λ y. y == x) xs) apart.0 (any_contains (λ y. y == x) xs b here (eq-eqb b x (sym (eqb-true x b e)))))

  past : (b : ℕ) → Contains xs b → place_of (x ∷ xs) b ≡ suc (place_of xs b)
  past b here = ap (λ t. cond t zero (suc (place_of xs b))) (other b here)

  own : place_of (x ∷ xs) x ≡ zero
  own = ap (λ t. cond t zero (suc (place_of xs x))) (eq-eqb x x refl)

  first : (b : ℕ) → Contains xs b → place_of (x ∷ xs) x < place_of (x ∷ xs) b
  first b here = let p = past b here in let o = own in omega (arith, p, o)

  lifted_all : (a : ℕ) → Contains xs a → (ys : List ℕ) → ((b : ℕ) → Contains ys b → Contains xs b) → AllByRecursion (λ b. place_of xs a < place_of xs b) ys → AllByRecursion (λ b. place_of (x ∷ xs) a < place_of (x ∷ xs) b) ys
  lifted_all a at [] within all = tt
  lifted_all a at (b ∷ bs) within all =
      let p = past a at in
      let q = past b (within b (contains_here b bs)) in
      let less = all.0 in
      (omega (arith, p, q, less), lifted_all a at bs (λ c here. within c (contains_later b bs c here)) all.1)

  lifted : (ys : List ℕ) → ((b : ℕ) → Contains ys b → Contains xs b) → IsPairwise (λ a b. place_of xs a < place_of xs b) ys → IsPairwise (λ a b. place_of (x ∷ xs) a < place_of (x ∷ xs) b) ys
  lifted [] within pairs = tt
  lifted (a ∷ zs) within pairs = (lifted_all a (within a (contains_here a zs)) zs (λ c here. within c (contains_later a zs c here)) pairs.0, lifted zs (λ c here. within c (contains_later a zs c here)) pairs.1)

-- of a mapped list in order, what passes a test is in order
pairs_kept : {A B : Type 0} (R : B → B → Type 0) (f : A → B) (test : A → Bool) (xs : List A) → IsPairwise R (map f xs) → IsPairwise R (map f (filter test xs))
pairs_kept R f test [] pairs = tt
pairs_kept {A = A} R f test (x ∷ xs) pairs = by_test (test x) (pairs_kept R f test xs pairs.1) where
  above : (ys : List A) → AllByRecursion (R (f x)) (map f ys) → AllByRecursion (R (f x)) (map f (filter test ys))
  above [] all = tt
  above (y ∷ ys) all = by_one (test y) (above ys all.1) where
    by_one : (b : Bool) → AllByRecursion (R (f x)) (map f (filter test ys)) → AllByRecursion (R (f x)) (map f (cond b (y ∷ filter test ys) (filter test ys)))
    by_one true rest = (all.0, rest)
    by_one false rest = rest

  by_test : (b : Bool) → IsPairwise R (map f (filter test xs)) → IsPairwise R (map f (cond b (x ∷ filter test xs) (filter test xs)))
  by_test true rest = (above xs pairs.0, rest)
  by_test false rest = rest

pub filtered_order : {A : Type 0} (f : A → ℕ) (test : A → Bool) (xs : List A) (list : List ℕ) → list ≡ map f xs → IsDistinct list → IsPairwise (λ a b. place_of list a < place_of list b) (map f (filter test xs))
filtered_order f test xs list listed apart = pairs_kept (λ a b. place_of list a < place_of list b) f test xs (subst (IsPairwise (λ a b. place_of list a < place_of list b)) listed (places_rise list apart))

-- members of one place are one
pub one_place : (xs : List ℕ) (a b : ℕ) → is_member xs a ≡ true → is_member xs b ≡ true → place_of xs a ≡ place_of xs b → a ≡ b
one_place [] a b ma mb same = absurd (true_false (sym ma))
one_place (x ∷ xs) a b ma mb same = by_tests (x == a) refl (x == b) refl ma mb same (one_place xs a b) where
  by_tests : (s : Bool) → (x == a) ≡ s → (t : Bool) → (x == b) ≡ t → (s || is_member xs a) ≡ true → (t || is_member xs b) ≡ true → cond s zero (suc (place_of xs a)) ≡ cond t zero (suc (place_of xs b))
      → (is_member xs a ≡ true → is_member xs b ≡ true → place_of xs a ≡ place_of xs b → a ≡ b) → a ≡ b
  by_tests true ea true eb ha hb e later = sym (eqb-true x a ea) ∙ eqb-true x b eb
  by_tests true ea false eb ha hb e later = absurd (omega (arith, e))
  by_tests false ea true eb ha hb e later = absurd (omega (arith, e))
  by_tests false ea false eb ha hb e later = later ha hb (omega (arith, e))

-- ---- one after another

-- how many members stand from this one on, where there is one
abbrev pub members_left : List ℕ → Option ℕ → ℕ
members_left list None = 0
members_left list (Some n) = length list - place_of list n

module _ (list : List ℕ) (P : ℕ → Type 0) where
  -- the next one stands behind those that were found
  abbrev pub IsBehind : Option ℕ → ℕ → Type 0
  IsBehind None n = Unit {0}
  IsBehind (Some m) n = Ahead list n m

  abbrev pub IsOne : Option ℕ → Type 0
  IsOne None = Unit {0}
  IsOne (Some m) = P m

  -- those that were found stand in order and pass, the next one passes, and whoever else passes does not stand before it
  pub record AreFound (found : List ℕ) (next : Option ℕ) : Type 0 where
    pub rising : IsPairwise (λ a b. Ahead list a b) found
    pub each : AllByRecursion P found
    pub behind : AllByRecursion (IsBehind next) found
    pub next_is : IsOne next
    pub others : (n : ℕ) → P n → Contains found n ⊎ IsAtMost list next n

module _ (list : List ℕ) (P : ℕ → Type 0) (members : (n : ℕ) → P n → is_member list n ≡ true) where
  -- the one that was found last stands before the next one
  next_behind : (m : ℕ) (next : Option ℕ) → Improves list (λ n. P n × IsAfter list (Some m) n) None next → IsBehind list P next m × IsOne list P next
  next_behind m None one = (tt, tt)
  next_behind m (Some k) one = by_origin (one.origin k refl) where
    by_origin : (None ≡ Some k) ⊎ (P k × Ahead list m k) → Ahead list m k × P k
    by_origin (inl e) = absurd (none_some e)
    by_origin (inr h) = (h.1, h.0)

  pub found_start : (next : Option ℕ) → Improves list (λ n. P n × IsAfter list None n) None next → AreFound list P [] next
  found_start next one = record {
    rising = tt;
    each = tt;
    behind = tt;
    next_is = first next one;
    others = λ n p. inr (one.bound n (p, tt));
  } where
    first : (next : Option ℕ) → Improves list (λ n. P n × IsAfter list None n) None next → IsOne list P next
    first None one = tt
    first (Some k) one = by_origin (one.origin k refl) where
      by_origin : (None ≡ Some k) ⊎ (P k × Unit {0}) → P k
      by_origin (inl e) = absurd (none_some e)
      by_origin (inr h) = h.0

  behind_more : (m : ℕ) (next : Option ℕ) (xs : List ℕ) → IsBehind list P next m → AllByRecursion (λ x. Ahead list x m) xs → AllByRecursion (IsBehind list P next) xs
  behind_more m next [] last all = tt
  behind_more m next (x ∷ xs) last all = (by_next next last, behind_more m next xs last all.1) where
    by_next : (next : Option ℕ) → IsBehind list P next m → IsBehind list P next x
    by_next None last = tt
    by_next (Some k) last = let less = all.0 in omega (arith, last, less)

  pub found_more : (found : List ℕ) (m : ℕ) (next : Option ℕ) → AreFound list P found (Some m) → Improves list (λ n. P n × IsAfter list (Some m) n) None next → AreFound list P (found ++ m ∷ []) next
  found_more found m next are one = record {
    rising = pairs_push (λ a b. Ahead list a b) found m are.rising are.behind;
    each = all_push P found m are.each are.next_is;
    behind = all_push (IsBehind list P next) found m (behind_more m next found (next_behind m next one).0 are.behind) (next_behind m next one).0;
    next_is = (next_behind m next one).1;
    others = λ n p. by_place n p (are.others n p);
  } where
    by_less : (n : ℕ) → P n → place_of list m ≤ place_of list n → (t : Bool) → (place_of list m == place_of list n) ≡ t → Contains (found ++ m ∷ []) n ⊎ IsAtMost list next n
    by_less n p least true e =
        let same : m ≡ n = one_place list m n (members m are.next_is) (members n p) (eqb-true (place_of list m) (place_of list n) e) in
        inl (contains_back found (m ∷ []) n (subst (λ k. Contains (m ∷ []) k) same (contains_here m [])))
    by_less n p least false e = inr (one.bound n (p, further)) where
      apart : place_of list m ≢ place_of list n
      apart same = both_ways (place_of list m == place_of list n) e (eq-eqb (place_of list m) (place_of list n) same)

      further : place_of list m < place_of list n
      further = let h = apart in omega (arith, least, h)

    by_place : (n : ℕ) → P n → Contains found n ⊎ (place_of list m ≤ place_of list n) → Contains (found ++ m ∷ []) n ⊎ IsAtMost list next n
    by_place n p (inl c) = inl (contains_front found (m ∷ []) n c)
    by_place n p (inr least) = by_less n p least (place_of list m == place_of list n) refl

  pub fewer_members : (found : List ℕ) (m : ℕ) (next : Option ℕ) → AreFound list P found (Some m) → Improves list (λ n. P n × IsAfter list (Some m) n) None next → members_left list next < members_left list (Some m)
  fewer_members found m next are one = by_next next (next_behind m next one) where
    here : place_of list m < length list
    here = place_of_within list m (members m are.next_is)

    by_next : (next : Option ℕ) → IsBehind list P next m × IsOne list P next → members_left list next < members_left list (Some m)
    by_next None h = let inside = here in omega (arith, inside)
    by_next (Some k) h = let less = h.0 in let inside = place_of_within list k (members k h.1) in omega (arith, less, inside)

  -- all that pass are found, in their order
  pub found_all : {A : Type 0} (f : A → ℕ) (test : A → Bool) (xs : List A) → list ≡ map f xs → IsDistinct list → ((n : ℕ) → P n → Contains (map f (filter test xs)) n) → ((n : ℕ) → Contains (map f (filter test xs)) n → P n)
      → (found : List ℕ) → AreFound list P found None → found ≡ map f (filter test xs)
  found_all f test xs listed apart there back found are = one_order (place_of list) found (map f (filter test xs)) are.rising (filtered_order f test xs list listed apart)
      (λ n c. there n (all_contains P found n are.each c)) (λ n c. by_found n (are.others n (back n c))) where
        by_found : (n : ℕ) → Contains found n ⊎ ⊥ → Contains found n
        by_found n (inl c) = c
        by_found n (inr never) = absurd never
