-- Numbers of a list in two parts, of which each stands in one at most.
use Rattle.std.proofs.Common.{◌≡◌, ◌∙◌, sym, ap, ℕ, suc, ◌+◌, ◌<◌, ◌≤◌, true, false, List, [], ◌∷◌, ◌++◌, length, drop, get_or, refl, ◌⊎◌, inl, inr, arith}
use Rattle.std.specs.List.{insert}
use Rattle.std.proofs.lemmas.Bool.{cases_eq}
use Rattle.std.proofs.lemmas.Bool.Decides.{nat_tests}
use Rattle.std.proofs.lemmas.List.{drop_more, at_drop_all}
use Rattle.ltx_model.specs.Listings.{is_member, without, insert_before, place_of}

-- ---- members

pub outside : (xs ys : List ℕ) (n : ℕ) → is_member (xs ++ ys) n ≡ false → (is_member xs n ≡ false) × (is_member ys n ≡ false)
outside [] ys n none = (refl, none)
outside (x ∷ xs) ys n none = by_case (cases_eq x n) (outside xs ys n) where
  by_case : (x ≡ n) ⊎ (x ≡ n → ⊥) → (is_member (xs ++ ys) n ≡ false → (is_member xs n ≡ false) × (is_member ys n ≡ false)) → (is_member (x ∷ xs) n ≡ false) × (is_member ys n ≡ false)
  by_case (inl same) rest = absurd (let here : is_member (x ∷ xs ++ ys) n ≡ true = grind (arith, nat_tests) in let no : true ≡ false = sym here ∙ none in cc)
  by_case (inr differ) rest =
      let among : is_member (xs ++ ys) n ≡ false = grind (arith, nat_tests) in
      let both = rest among in
      let left = both.0 in
      (grind (arith, nat_tests), both.1)

pub member_right : (xs ys : List ℕ) (n : ℕ) → is_member ys n ≡ true → is_member (xs ++ ys) n ≡ true
member_right [] ys n is = is
member_right (x ∷ xs) ys n is = by_case (cases_eq x n) (member_right xs ys n is) where
  by_case : (x ≡ n) ⊎ (x ≡ n → ⊥) → is_member (xs ++ ys) n ≡ true → is_member (x ∷ xs ++ ys) n ≡ true
  by_case (inl same) rest = grind (arith, nat_tests)
  by_case (inr differ) rest = grind (arith, nat_tests)

pub member_not_right : (xs ys : List ℕ) (n : ℕ) → is_member ys n ≡ false → is_member (xs ++ ys) n ≡ is_member xs n
member_not_right [] ys n none = none
member_not_right (x ∷ xs) ys n none = by_case (cases_eq x n) (member_not_right xs ys n none) where
  by_case : (x ≡ n) ⊎ (x ≡ n → ⊥) → is_member (xs ++ ys) n ≡ is_member xs n → is_member (x ∷ xs ++ ys) n ≡ is_member (x ∷ xs) n
  by_case (inl same) rest = grind (arith, nat_tests)
  by_case (inr differ) rest = grind (arith, nat_tests)

pub member_was : (xs : List ℕ) (n m : ℕ) → is_member (without xs n) m ≡ true → is_member xs m ≡ true
member_was [] n m is = is
member_was (x ∷ xs) n m is = by_case (cases_eq x n) (cases_eq x m) (member_was xs n m) where
  by_case : (x ≡ n) ⊎ (x ≡ n → ⊥) → (x ≡ m) ⊎ (x ≡ m → ⊥) → (is_member (without xs n) m ≡ true → is_member xs m ≡ true) → is_member (x ∷ xs) m ≡ true
  by_case s (inl same) rest = grind (arith, nat_tests)
  by_case (inl gone) (inr differ) rest =
      let among : is_member (without xs n) m ≡ true = grind (arith, nat_tests) in
      let there = rest among in
      grind (arith, nat_tests)
  by_case (inr left) (inr differ) rest =
      let among : is_member (without xs n) m ≡ true = grind (arith, nat_tests) in
      let there = rest among in
      grind (arith, nat_tests)

pub member_came : (xs : List ℕ) (y t m : ℕ) → is_member (insert_before y t xs) m ≡ true → (y ≡ m) ⊎ (is_member xs m ≡ true)
member_came [] y t m is = inr is
member_came (x ∷ xs) y t m is = by_case (cases_eq y m) (cases_eq x t) (cases_eq x m) (member_came xs y t m) where
  by_case : (y ≡ m) ⊎ (y ≡ m → ⊥) → (x ≡ t) ⊎ (x ≡ t → ⊥) → (x ≡ m) ⊎ (x ≡ m → ⊥) → (is_member (insert_before y t xs) m ≡ true → (y ≡ m) ⊎ (is_member xs m ≡ true)) → (y ≡ m) ⊎ (is_member (x ∷ xs) m ≡ true)
  by_case (inl it) s u rest = inl it
  by_case (inr other) s (inl here) rest = inr (grind (arith, nat_tests))
  by_case (inr other) (inl found) (inr differ) rest = inr (let among : is_member xs m ≡ true = grind (arith, nat_tests) in grind (arith, nat_tests))
  by_case (inr other) (inr on) (inr differ) rest = further (rest (grind (arith, nat_tests))) where
    further : (y ≡ m) ⊎ (is_member xs m ≡ true) → (y ≡ m) ⊎ (is_member (x ∷ xs) m ≡ true)
    further (inl it) = inl it
    further (inr among) = inr (grind (arith, nat_tests))

-- ---- taking out

pub without_absent : (xs : List ℕ) (n : ℕ) → is_member xs n ≡ false → without xs n ≡ xs
without_absent [] n none = refl
without_absent (x ∷ xs) n none = by_case (cases_eq x n) (without_absent xs n) where
  by_case : (x ≡ n) ⊎ (x ≡ n → ⊥) → (is_member xs n ≡ false → without xs n ≡ xs) → without (x ∷ xs) n ≡ x ∷ xs
  by_case (inl same) rest = absurd (let here : is_member (x ∷ xs) n ≡ true = grind (arith, nat_tests) in let no : true ≡ false = sym here ∙ none in cc)
  by_case (inr differ) rest =
      let among : is_member xs n ≡ false = grind (arith, nat_tests) in
      let same = rest among in
      grind (arith, nat_tests)

pub without-append : (xs ys : List ℕ) (n : ℕ) → without (xs ++ ys) n ≡ without xs n ++ without ys n
without-append [] ys n = refl
without-append (x ∷ xs) ys n = by_case (cases_eq x n) (without-append xs ys n) where
  by_case : (x ≡ n) ⊎ (x ≡ n → ⊥) → without (xs ++ ys) n ≡ without xs n ++ without ys n → without (x ∷ xs ++ ys) n ≡ without (x ∷ xs) n ++ without ys n
  by_case (inl same) rest = grind (arith, nat_tests)
  by_case (inr differ) rest = grind (arith, nat_tests)

pub without_left : (xs ys : List ℕ) (n : ℕ) → is_member ys n ≡ false → without (xs ++ ys) n ≡ without xs n ++ ys
without_left xs ys n none = without-append xs ys n ∙ ap (λ zs. without xs n ++ zs) (without_absent ys n none)

pub without_right : (xs ys : List ℕ) (n : ℕ) → is_member xs n ≡ false → without (xs ++ ys) n ≡ xs ++ without ys n
without_right xs ys n none = without-append xs ys n ∙ ap (λ zs. zs ++ without ys n) (without_absent xs n none)

pub length-without_most : (xs : List ℕ) (n : ℕ) → length (without xs n) ≤ length xs
length-without_most [] n = omega arith
length-without_most (x ∷ xs) n = by_case (cases_eq x n) (length-without_most xs n) where
  by_case : (x ≡ n) ⊎ (x ≡ n → ⊥) → length (without xs n) ≤ length xs → length (without (x ∷ xs) n) ≤ length (x ∷ xs)
  by_case (inl same) rest = let gone : without (x ∷ xs) n ≡ without xs n = grind (arith, nat_tests) in let shorter = ap (λ (zs : List ℕ). length zs) gone in omega arith
  by_case (inr differ) rest = let left : without (x ∷ xs) n ≡ x ∷ without xs n = grind (arith, nat_tests) in let longer = ap (λ (zs : List ℕ). length zs) left in omega arith

pub length-without_member : (xs : List ℕ) (n : ℕ) → is_member xs n ≡ true → length (without xs n) < length xs
length-without_member [] n is = absurd (cc)
length-without_member (x ∷ xs) n is = by_case (cases_eq x n) (length-without_member xs n) where
  by_case : (x ≡ n) ⊎ (x ≡ n → ⊥) → (is_member xs n ≡ true → length (without xs n) < length xs) → length (without (x ∷ xs) n) < length (x ∷ xs)
  by_case (inl same) rest =
      let gone : without (x ∷ xs) n ≡ without xs n = grind (arith, nat_tests) in
      let shorter = ap (λ (zs : List ℕ). length zs) gone in
      let most = length-without_most xs n in
      omega arith
  by_case (inr differ) rest =
      let left : without (x ∷ xs) n ≡ x ∷ without xs n = grind (arith, nat_tests) in
      let longer = ap (λ (zs : List ℕ). length zs) left in
      let among : is_member xs n ≡ true = grind (arith, nat_tests) in
      let less = rest among in
      omega arith

-- ---- putting before

pub insert_before_right : (xs ys : List ℕ) (y t : ℕ) → is_member xs t ≡ false → insert_before y t (xs ++ ys) ≡ xs ++ insert_before y t ys
insert_before_right [] ys y t none = refl
insert_before_right (x ∷ xs) ys y t none = by_case (cases_eq x t) (insert_before_right xs ys y t) where
  by_case : (x ≡ t) ⊎ (x ≡ t → ⊥) → (is_member xs t ≡ false → insert_before y t (xs ++ ys) ≡ xs ++ insert_before y t ys) → insert_before y t (x ∷ xs ++ ys) ≡ x ∷ xs ++ insert_before y t ys
  by_case (inl same) rest = absurd (let here : is_member (x ∷ xs) t ≡ true = grind (arith, nat_tests) in let no : true ≡ false = sym here ∙ none in cc)
  by_case (inr differ) rest =
      let among : is_member xs t ≡ false = grind (arith, nat_tests) in
      let same = rest among in
      grind (arith, nat_tests)

pub insert_before_at : (xs : List ℕ) (y t : ℕ) → is_member xs t ≡ true → insert_before y t xs ≡ insert xs (place_of xs t) y
insert_before_at [] y t is = absurd (cc)
insert_before_at (x ∷ xs) y t is = by_case (cases_eq x t) (insert_before_at xs y t) where
  by_case : (x ≡ t) ⊎ (x ≡ t → ⊥) → (is_member xs t ≡ true → insert_before y t xs ≡ insert xs (place_of xs t) y) → insert_before y t (x ∷ xs) ≡ insert (x ∷ xs) (place_of (x ∷ xs) t) y
  by_case (inl same) rest = grind (arith, nat_tests)
  by_case (inr differ) rest =
      let among : is_member xs t ≡ true = grind (arith, nat_tests) in
      let same = rest among in
      grind (arith, nat_tests)

pub length-insert_before_most : (xs : List ℕ) (y t : ℕ) → length (insert_before y t xs) ≤ length xs + 1
length-insert_before_most [] y t = omega arith
length-insert_before_most (x ∷ xs) y t = by_case (cases_eq x t) (length-insert_before_most xs y t) where
  by_case : (x ≡ t) ⊎ (x ≡ t → ⊥) → length (insert_before y t xs) ≤ length xs + 1 → length (insert_before y t (x ∷ xs)) ≤ length (x ∷ xs) + 1
  by_case (inl same) rest = let came : insert_before y t (x ∷ xs) ≡ y ∷ x ∷ xs = grind (arith, nat_tests) in let longer = ap (λ (zs : List ℕ). length zs) came in omega arith
  by_case (inr differ) rest = let on : insert_before y t (x ∷ xs) ≡ x ∷ insert_before y t xs = grind (arith, nat_tests) in let longer = ap (λ (zs : List ℕ). length zs) on in omega arith

pub length-insert_before_member : (xs : List ℕ) (y t : ℕ) → is_member xs t ≡ true → length (insert_before y t xs) ≡ length xs + 1
length-insert_before_member [] y t is = absurd (cc)
length-insert_before_member (x ∷ xs) y t is = by_case (cases_eq x t) (length-insert_before_member xs y t) where
  by_case : (x ≡ t) ⊎ (x ≡ t → ⊥) → (is_member xs t ≡ true → length (insert_before y t xs) ≡ length xs + 1) → length (insert_before y t (x ∷ xs)) ≡ length (x ∷ xs) + 1
  by_case (inl same) rest = let came : insert_before y t (x ∷ xs) ≡ y ∷ x ∷ xs = grind (arith, nat_tests) in let longer = ap (λ (zs : List ℕ). length zs) came in omega arith
  by_case (inr differ) rest =
      let on : insert_before y t (x ∷ xs) ≡ x ∷ insert_before y t xs = grind (arith, nat_tests) in
      let longer = ap (λ (zs : List ℕ). length zs) on in
      let among : is_member xs t ≡ true = grind (arith, nat_tests) in
      let one = rest among in
      omega arith

-- ---- places

pub place_of_left : (xs ys : List ℕ) (n : ℕ) → is_member xs n ≡ true → place_of (xs ++ ys) n ≡ place_of xs n
place_of_left [] ys n is = absurd (cc)
place_of_left (x ∷ xs) ys n is = by_case (cases_eq x n) (place_of_left xs ys n) where
  by_case : (x ≡ n) ⊎ (x ≡ n → ⊥) → (is_member xs n ≡ true → place_of (xs ++ ys) n ≡ place_of xs n) → place_of (x ∷ xs ++ ys) n ≡ place_of (x ∷ xs) n
  by_case (inl same) rest = grind (arith, nat_tests)
  by_case (inr differ) rest =
      let among : is_member xs n ≡ true = grind (arith, nat_tests) in
      let same = rest among in
      grind (arith, nat_tests)

pub place_of_right : (xs ys : List ℕ) (n : ℕ) → is_member xs n ≡ false → place_of (xs ++ ys) n ≡ length xs + place_of ys n
place_of_right [] ys n none = omega arith
place_of_right (x ∷ xs) ys n none = by_case (cases_eq x n) (place_of_right xs ys n) where
  by_case : (x ≡ n) ⊎ (x ≡ n → ⊥) → (is_member xs n ≡ false → place_of (xs ++ ys) n ≡ length xs + place_of ys n) → place_of (x ∷ xs ++ ys) n ≡ length (x ∷ xs) + place_of ys n
  by_case (inl same) rest = absurd (let here : is_member (x ∷ xs) n ≡ true = grind (arith, nat_tests) in let no : true ≡ false = sym here ∙ none in cc)
  by_case (inr differ) rest =
      let among : is_member xs n ≡ false = grind (arith, nat_tests) in
      let same = rest among in
      let on : place_of (x ∷ xs ++ ys) n ≡ suc (place_of (xs ++ ys) n) = grind (arith, nat_tests) in
      omega arith

pub place_of_within : (xs : List ℕ) (n : ℕ) → is_member xs n ≡ true → place_of xs n < length xs
place_of_within [] n is = absurd (cc)
place_of_within (x ∷ xs) n is = by_case (cases_eq x n) (place_of_within xs n) where
  by_case : (x ≡ n) ⊎ (x ≡ n → ⊥) → (is_member xs n ≡ true → place_of xs n < length xs) → place_of (x ∷ xs) n < length (x ∷ xs)
  by_case (inl same) rest = let here : place_of (x ∷ xs) n ≡ 0 = grind (arith, nat_tests) in omega arith
  by_case (inr differ) rest =
      let among : is_member xs n ≡ true = grind (arith, nat_tests) in
      let within = rest among in
      let on : place_of (x ∷ xs) n ≡ suc (place_of xs n) = grind (arith, nat_tests) in
      omega arith

-- a walk that has come to the number
pub place_here : (xs : List ℕ) (i n x : ℕ) → i < length xs → x ≡ get_or xs i x → x ≡ n → place_of xs n ≡ i + place_of (drop i xs) n → i ≡ place_of xs n
place_here xs i n x within is same sofar =
    let front = drop_more xs i x within in
    let here : get_or xs i x ≡ n = sym is ∙ same in
    let first : place_of (get_or xs i x ∷ drop (i + 1) xs) n ≡ 0 = grind (arith, nat_tests) in
    let there = ap (λ zs. place_of zs n) front in
    omega arith

-- a walk goes on past another number
pub place_on : (xs : List ℕ) (i n x : ℕ) → i < length xs → x ≡ get_or xs i x → (x ≡ n → ⊥) → place_of xs n ≡ i + place_of (drop i xs) n → place_of xs n ≡ (i + 1) + place_of (drop (i + 1) xs) n
place_on xs i n x within is differ sofar =
    let front = drop_more xs i x within in
    let other : get_or xs i x ≡ n → ⊥ = λ e. differ (is ∙ e) in
    let next : place_of (get_or xs i x ∷ drop (i + 1) xs) n ≡ suc (place_of (drop (i + 1) xs) n) = grind (arith, nat_tests) in
    let there = ap (λ zs. place_of zs n) front in
    omega arith

-- and comes to the end without it
pub place_past : (xs : List ℕ) (i n : ℕ) → length xs ≤ i → i ≤ length xs → place_of xs n ≡ i + place_of (drop i xs) n → length xs ≡ place_of xs n
place_past xs i n past upto sofar = let none : place_of (drop i xs) n ≡ 0 = at_drop_all (λ zs. place_of zs n) xs i past in omega arith

pub member_left : (xs ys : List ℕ) (n : ℕ) → is_member xs n ≡ true → is_member (xs ++ ys) n ≡ true
member_left [] ys n is = absurd (cc)
member_left (x ∷ xs) ys n is = by_case (cases_eq x n) (member_left xs ys n) where
  by_case : (x ≡ n) ⊎ (x ≡ n → ⊥) → (is_member xs n ≡ true → is_member (xs ++ ys) n ≡ true) → is_member (x ∷ xs ++ ys) n ≡ true
  by_case (inl same) rest = grind (arith, nat_tests)
  by_case (inr differ) rest =
      let among : is_member xs n ≡ true = grind (arith, nat_tests) in
      let there = rest among in
      grind (arith, nat_tests)

pub member_not_left : (xs ys : List ℕ) (n : ℕ) → is_member xs n ≡ false → is_member (xs ++ ys) n ≡ is_member ys n
member_not_left [] ys n none = refl
member_not_left (x ∷ xs) ys n none = by_case (cases_eq x n) (member_not_left xs ys n) where
  by_case : (x ≡ n) ⊎ (x ≡ n → ⊥) → (is_member xs n ≡ false → is_member (xs ++ ys) n ≡ is_member ys n) → is_member (x ∷ xs ++ ys) n ≡ is_member ys n
  by_case (inl same) rest = absurd (let here : is_member (x ∷ xs) n ≡ true = grind (arith, nat_tests) in let no : true ≡ false = sym here ∙ none in cc)
  by_case (inr differ) rest =
      let among : is_member xs n ≡ false = grind (arith, nat_tests) in
      let same = rest among in
      grind (arith, nat_tests)

pub insert_before_left : (xs ys : List ℕ) (y t : ℕ) → is_member xs t ≡ true → insert_before y t (xs ++ ys) ≡ insert_before y t xs ++ ys
insert_before_left [] ys y t is = absurd (cc)
insert_before_left (x ∷ xs) ys y t is = by_case (cases_eq x t) (insert_before_left xs ys y t) where
  by_case : (x ≡ t) ⊎ (x ≡ t → ⊥) → (is_member xs t ≡ true → insert_before y t (xs ++ ys) ≡ insert_before y t xs ++ ys) → insert_before y t (x ∷ xs ++ ys) ≡ insert_before y t (x ∷ xs) ++ ys
  by_case (inl same) rest = grind (arith, nat_tests)
  by_case (inr differ) rest =
      let among : is_member xs t ≡ true = grind (arith, nat_tests) in
      let same = rest among in
      grind (arith, nat_tests)
