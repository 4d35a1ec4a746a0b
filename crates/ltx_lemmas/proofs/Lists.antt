-- Lists: what holds of each item, searches, filters, and the parts before and from the first item that passes a test.
use Rattle.std.proofs.Common.{◌≡◌, ◌⊎◌, inl, inr, zero, suc, Bool, true, false, cond, not, ◌&&◌, ◌||◌, List, [], ◌∷◌, ◌++◌, map, Option, Some, None, refl, sym, ap, ◌∙◌, subst, arith}
use Rattle.std.proofs.lemmas.Bool.{both_ways}
use Rattle.std.specs.List.{find, list_any, filter, filter_map, cons_option, AllByRecursion, Contains}
use Rattle.ltx_model.specs.Lists.{change_first, without_first, before_first, from_first}

pub some_same : {A : Type 0} {x y : A} → Some x ≡ Some y → x ≡ y
some_same e = cc

pub none_some : {A : Type 0} {x : A} → ◌≡◌ {A = Option A} None (Some x) → ⊥
none_some e = cc

pub true_false : true ≡ false → ⊥
true_false e = cc

-- an item of a list
module _ {A : Type 0} where
  pub contains_here : (x : A) (xs : List A) → Contains (x ∷ xs) x
  contains_here x xs = (0, omega arith, refl)

  pub contains_later : (x : A) (xs : List A) (y : A) → Contains xs y → Contains (x ∷ xs) y
  contains_later x xs y (k, below, is) = (suc k, omega (arith, below), is)

  pub contains_cases : (x : A) (xs : List A) (y : A) → Contains (x ∷ xs) y → (x ≡ y) ⊎ Contains xs y
  contains_cases x xs y (zero, below, is) = inl is
  contains_cases x xs y (suc k, below, is) = inr (k, omega (arith, below), is)

  pub contains_none : (y : A) → Contains [] y → ⊥
  contains_none y (k, below, is) = omega (arith, below)

  pub contains_front : (xs ys : List A) (y : A) → Contains xs y → Contains (xs ++ ys) y
  contains_front [] ys y c = absurd (contains_none y c)
  contains_front (x ∷ xs) ys y c = by_place (contains_cases x xs y c) (contains_front xs ys y) where
    by_place : (x ≡ y) ⊎ Contains xs y → (Contains xs y → Contains (xs ++ ys) y) → Contains (x ∷ (xs ++ ys)) y
    by_place (inl e) later = subst (λ z. Contains (z ∷ (xs ++ ys)) y) (sym e) (contains_here y (xs ++ ys))
    by_place (inr c) later = contains_later x (xs ++ ys) y (later c)

  pub contains_back : (xs ys : List A) (y : A) → Contains ys y → Contains (xs ++ ys) y
  contains_back [] ys y c = c
  contains_back (x ∷ xs) ys y c = contains_later x (xs ++ ys) y (contains_back xs ys y c)

  pub contains_parts : (xs ys : List A) (y : A) → Contains (xs ++ ys) y → Contains xs y ⊎ Contains ys y
  contains_parts [] ys y c = inr c
  contains_parts (x ∷ xs) ys y c = by_place (contains_cases x (xs ++ ys) y c) (contains_parts xs ys y) where
    by_place : (x ≡ y) ⊎ Contains (xs ++ ys) y → (Contains (xs ++ ys) y → Contains xs y ⊎ Contains ys y) → Contains (x ∷ xs) y ⊎ Contains ys y
    by_place (inl e) later = inl (subst (λ z. Contains (z ∷ xs) y) (sym e) (contains_here y xs))
    by_place (inr c) later = by_part (later c) where
      by_part : Contains xs y ⊎ Contains ys y → Contains (x ∷ xs) y ⊎ Contains ys y
      by_part (inl d) = inl (contains_later x xs y d)
      by_part (inr d) = inr d

-- what holds of each item
module _ {A : Type 0} where
  pub all_map : (P Q : A → Type 0) → ((x : A) → P x → Q x) → (xs : List A) → AllByRecursion P xs → AllByRecursion Q xs
  all_map P Q f [] all = tt
  all_map P Q f (x ∷ xs) all = (f x all.0, all_map P Q f xs all.1)

  pub all_push : (P : A → Type 0) (xs : List A) (y : A) → AllByRecursion P xs → P y → AllByRecursion P (xs ++ y ∷ [])
  all_push P [] y all p = (p, tt)
  all_push P (x ∷ xs) y all p = (all.0, all_push P xs y all.1 p)

  pub all_append : (P : A → Type 0) (xs ys : List A) → AllByRecursion P xs → AllByRecursion P ys → AllByRecursion P (xs ++ ys)
  all_append P [] ys all more = more
  all_append P (x ∷ xs) ys all more = (all.0, all_append P xs ys all.1 more)

  pub all_front : (P : A → Type 0) (xs ys : List A) → AllByRecursion P (xs ++ ys) → AllByRecursion P xs
  all_front P [] ys all = tt
  all_front P (x ∷ xs) ys all = (all.0, all_front P xs ys all.1)

  pub all_back : (P : A → Type 0) (xs ys : List A) → AllByRecursion P (xs ++ ys) → AllByRecursion P ys
  all_back P [] ys all = all
  all_back P (x ∷ xs) ys all = all_back P xs ys all.1

  pub all_contains : (P : A → Type 0) (xs : List A) (y : A) → AllByRecursion P xs → Contains xs y → P y
  all_contains P [] y all c = absurd (contains_none y c)
  all_contains P (x ∷ xs) y all c = by_place (contains_cases x xs y c) (all_contains P xs y all.1) where
    by_place : (x ≡ y) ⊎ Contains xs y → (Contains xs y → P y) → P y
    by_place (inl e) later = subst P e all.0
    by_place (inr c) later = later c

  pub all_from : (P : A → Type 0) (xs : List A) → ((x : A) → Contains xs x → P x) → AllByRecursion P xs
  all_from P [] each = tt
  all_from P (x ∷ xs) each = (each x (contains_here x xs), all_from P xs (λ y c. each y (contains_later x xs y c)))

  pub all_filter : (P : A → Type 0) (test : A → Bool) (xs : List A) → AllByRecursion P xs → AllByRecursion P (filter test xs)
  all_filter P test [] all = tt
  all_filter P test (x ∷ xs) all = by_test (test x) (all_filter P test xs all.1) where
    by_test : (b : Bool) → AllByRecursion P (filter test xs) → AllByRecursion P (cond b (x ∷ filter test xs) (filter test xs))
    by_test true rest = (all.0, rest)
    by_test false rest = rest

  pub all_find : (P : A → Type 0) (test : A → Bool) (xs : List A) (y : A) → AllByRecursion P xs → find test xs ≡ Some y → P y
  all_find P test [] y all e = cc
  all_find P test (x ∷ xs) y all e = by_test (test x) e (all_find P test xs y all.1) where
    by_test : (b : Bool) → cond b (Some x) (find test xs) ≡ Some y → (find test xs ≡ Some y → P y) → P y
    by_test true e later = let same : x ≡ y = cc in subst P same all.0
    by_test false e later = later e

  pub all_without : (P : A → Type 0) (test : A → Bool) (xs : List A) → AllByRecursion P xs → AllByRecursion P (without_first test xs)
  all_without P test [] all = tt
  all_without P test (x ∷ xs) all = by_test (test x) (all_without P test xs all.1) where
    by_test : (b : Bool) → AllByRecursion P (without_first test xs) → AllByRecursion P (cond b xs (x ∷ without_first test xs))
    by_test true rest = all.1
    by_test false rest = (all.0, rest)

  pub all_change : (P Q : A → Type 0) (test : A → Bool) (f : A → A) (xs : List A) → ((x : A) → P x → Q x) → ((x : A) → find test xs ≡ Some x → P x → Q (f x))
      → AllByRecursion P xs → AllByRecursion Q (change_first test f xs)
  all_change P Q test f [] keep change all = tt
  all_change P Q test f (x ∷ xs) keep change all = by_test (test x) refl (all_change P Q test f xs keep) where
    by_test : (b : Bool) → test x ≡ b → (((y : A) → find test xs ≡ Some y → P y → Q (f y)) → AllByRecursion P xs → AllByRecursion Q (change_first test f xs))
        → AllByRecursion Q (cond b (f x ∷ xs) (x ∷ change_first test f xs))
    by_test true e later = (change x (ap (λ b. cond b (Some x) (find test xs)) e) all.0, all_map P Q keep xs all.1)
    by_test false e later = (keep x all.0, later (λ y is p. change y (ap (λ b. cond b (Some x) (find test xs)) e ∙ is) p) all.1)

  pub all_mapped : {B : Type 0} (P : B → Type 0) (f : A → B) (xs : List A) → AllByRecursion (λ x. P (f x)) xs → AllByRecursion P (map f xs)
  all_mapped P f [] all = tt
  all_mapped P f (x ∷ xs) all = (all.0, all_mapped P f xs all.1)

  pub all_of_map : {B : Type 0} (P : B → Type 0) (f : A → B) (xs : List A) → AllByRecursion P (map f xs) → AllByRecursion (λ x. P (f x)) xs
  all_of_map P f [] all = tt
  all_of_map P f (x ∷ xs) all = (all.0, all_of_map P f xs all.1)

-- whether an item passes a test
module _ {A : Type 0} (test : A → Bool) where
  pub any_contains : (xs : List A) (y : A) → Contains xs y → test y ≡ true → list_any test xs ≡ true
  any_contains [] y c is = absurd (contains_none y c)
  any_contains (x ∷ xs) y c is = by_place (contains_cases x xs y c) (any_contains xs y) where
    by_place : (x ≡ y) ⊎ Contains xs y → (Contains xs y → test y ≡ true → list_any test xs ≡ true) → (test x || list_any test xs) ≡ true
    by_place (inl e) later = ap (λ b. b || list_any test xs) (ap test e ∙ is)
    by_place (inr c) later = by_test (test x) where
      by_test : (b : Bool) → (b || list_any test xs) ≡ true
      by_test true = refl
      by_test false = later c is

  pub any_item : (xs : List A) → list_any test xs ≡ true → (x : A) × Contains xs x × (test x ≡ true)
  any_item [] e = absurd (let no : ⊥ = cc in no)
  any_item (x ∷ xs) e = by_test (test x) refl e (any_item xs) where
    by_test : (b : Bool) → test x ≡ b → (b || list_any test xs) ≡ true → (list_any test xs ≡ true → (y : A) × Contains xs y × (test y ≡ true)) → (y : A) × Contains (x ∷ xs) y × (test y ≡ true)
    by_test true is h later = (x, contains_here x xs, is)
    by_test false is h later = let found = later h in (found.0, contains_later x xs found.0 found.1, found.2)

  pub any_not : (xs : List A) (y : A) → list_any test xs ≡ false → Contains xs y → test y ≡ false
  any_not xs y none c = by_test (test y) refl where
    by_test : (b : Bool) → test y ≡ b → test y ≡ false
    by_test false e = e
    by_test true e = absurd (let some = any_contains xs y c e in let no : ⊥ = both_ways (list_any test xs) none some in no)

  pub any_none : (xs : List A) → ((x : A) → Contains xs x → test x ≡ false) → list_any test xs ≡ false
  any_none xs each = by_test (list_any test xs) refl where
    by_test : (b : Bool) → list_any test xs ≡ b → list_any test xs ≡ false
    by_test false e = e
    by_test true e = absurd (let found = any_item xs e in let no : ⊥ = both_ways (test found.0) (each found.0 found.1) found.2 in no)

  pub any_none_all : (xs : List A) → AllByRecursion (λ x. test x ≡ false) xs → list_any test xs ≡ false
  any_none_all xs all = any_none xs (λ x c. all_contains (λ x. test x ≡ false) xs x all c)

  pub any_not_all : (xs : List A) → list_any test xs ≡ false → AllByRecursion (λ x. test x ≡ false) xs
  any_not_all xs none = all_from (λ x. test x ≡ false) xs (λ x c. any_not xs x none c)

  pub any_append : (xs ys : List A) → list_any test (xs ++ ys) ≡ (list_any test xs || list_any test ys)
  any_append [] ys = refl
  any_append (x ∷ xs) ys = by_test (test x) (any_append xs ys) where
    by_test : (b : Bool) → list_any test (xs ++ ys) ≡ (list_any test xs || list_any test ys) → (b || list_any test (xs ++ ys)) ≡ ((b || list_any test xs) || list_any test ys)
    by_test true e = refl
    by_test false e = e

pub any_map : {A B : Type 0} (test : B → Bool) (f : A → B) (xs : List A) → list_any test (map f xs) ≡ list_any (λ x. test (f x)) xs
any_map test f [] = refl
any_map test f (x ∷ xs) = ap (λ b. test (f x) || b) (any_map test f xs)

-- tests that agree at each item
pub any_agree : {A : Type 0} (p q : A → Bool) (xs : List A) → AllByRecursion (λ x. p x ≡ q x) xs → list_any p xs ≡ list_any q xs
any_agree p q [] all = refl
any_agree p q (x ∷ xs) all = ap (λ b. b || list_any p xs) all.0 ∙ ap (λ b. q x || b) (any_agree p q xs all.1)

-- the first item that passes a test
module _ {A : Type 0} (test : A → Bool) where
  pub find_passes : (xs : List A) (x : A) → find test xs ≡ Some x → test x ≡ true
  find_passes [] x e = absurd (none_some e)
  find_passes (y ∷ ys) x e = by_test (test y) refl e (find_passes ys x) where
    by_test : (b : Bool) → test y ≡ b → cond b (Some y) (find test ys) ≡ Some x → (find test ys ≡ Some x → test x ≡ true) → test x ≡ true
    by_test true is h later = sym (ap test (some_same h)) ∙ is
    by_test false is h later = later h

  pub find_contains : (xs : List A) (x : A) → find test xs ≡ Some x → Contains xs x
  find_contains [] x e = absurd (none_some e)
  find_contains (y ∷ ys) x e = by_test (test y) e (find_contains ys x) where
    by_test : (b : Bool) → cond b (Some y) (find test ys) ≡ Some x → (find test ys ≡ Some x → Contains ys x) → Contains (y ∷ ys) x
    by_test true h later = subst (λ z. Contains (z ∷ ys) x) (sym (some_same h)) (contains_here x ys)
    by_test false h later = contains_later y ys x (later h)

  pub find_none : (xs : List A) → find test xs ≡ None → AllByRecursion (λ x. test x ≡ false) xs
  find_none [] e = tt
  find_none (y ∷ ys) e = by_test (test y) refl e (find_none ys) where
    by_test : (b : Bool) → test y ≡ b → cond b (Some y) (find test ys) ≡ None → (find test ys ≡ None → AllByRecursion (λ x. test x ≡ false) ys) → (test y ≡ false) × AllByRecursion (λ x. test x ≡ false) ys
    by_test true is h later = absurd (none_some (sym h))
    by_test false is h later = (is, later h)

  pub find_none_from : (xs : List A) → AllByRecursion (λ x. test x ≡ false) xs → find test xs ≡ None
  find_none_from [] all = refl
  find_none_from (y ∷ ys) all = ap (λ b. cond b (Some y) (find test ys)) all.0 ∙ find_none_from ys all.1

  pub find_not : (xs : List A) (x : A) → find test xs ≡ None → Contains xs x → test x ≡ false
  find_not xs x e c = all_contains (λ x. test x ≡ false) xs x (find_none xs e) c

  -- the items before the one that is found fail, and that one heads the rest
  pub find_splits : (xs : List A) (x : A) → find test xs ≡ Some x → (rest : List A) × (xs ≡ before_first test xs ++ x ∷ rest) × (from_first test xs ≡ x ∷ rest)
  find_splits [] x e = absurd (none_some e)
  find_splits (y ∷ ys) x e = by_test (test y) e (find_splits ys x) where
    by_test : (b : Bool) → cond b (Some y) (find test ys) ≡ Some x → (find test ys ≡ Some x → (rest : List A) × (ys ≡ before_first test ys ++ x ∷ rest) × (from_first test ys ≡ x ∷ rest))
        → (rest : List A) × (y ∷ ys ≡ cond b [] (y ∷ before_first test ys) ++ x ∷ rest) × (cond b (y ∷ ys) (from_first test ys) ≡ x ∷ rest)
    by_test true h later = (ys, ap (λ z. z ∷ ys) (some_same h), ap (λ z. z ∷ ys) (some_same h))
    by_test false h later = let r = later h in (r.0, ap (λ l. y ∷ l) r.1, r.2)

  pub find_any : (xs : List A) → list_any test xs ≡ true → (x : A) × (find test xs ≡ Some x)
  find_any [] e = absurd (let no : ⊥ = cc in no)
  find_any (y ∷ ys) e = by_test (test y) refl e (find_any ys) where
    by_test : (b : Bool) → test y ≡ b → (b || list_any test ys) ≡ true → (list_any test ys ≡ true → (x : A) × (find test ys ≡ Some x)) → (x : A) × (cond b (Some y) (find test ys) ≡ Some x)
    by_test true is h later = (y, refl)
    by_test false is h later = later h

  pub parts_join : (xs : List A) → before_first test xs ++ from_first test xs ≡ xs
  parts_join [] = refl
  parts_join (x ∷ xs) = by_test (test x) (parts_join xs) where
    by_test : (b : Bool) → before_first test xs ++ from_first test xs ≡ xs → cond b [] (x ∷ before_first test xs) ++ cond b (x ∷ xs) (from_first test xs) ≡ x ∷ xs
    by_test true e = refl
    by_test false e = ap (λ l. x ∷ l) e

  pub before_fails : (xs : List A) → AllByRecursion (λ x. test x ≡ false) (before_first test xs)
  before_fails [] = tt
  before_fails (x ∷ xs) = by_test (test x) refl (before_fails xs) where
    by_test : (b : Bool) → test x ≡ b → AllByRecursion (λ x. test x ≡ false) (before_first test xs) → AllByRecursion (λ x. test x ≡ false) (cond b [] (x ∷ before_first test xs))
    by_test true is rest = tt
    by_test false is rest = (is, rest)

  -- the parts of two lists, where the first has no item that passes
  pub before_past : (xs ys : List A) → AllByRecursion (λ x. test x ≡ false) xs → before_first test (xs ++ ys) ≡ xs ++ before_first test ys
  before_past [] ys fails = refl
  before_past (x ∷ xs) ys fails = ap (λ b. cond b [] (x ∷ before_first test (xs ++ ys))) fails.0 ∙ ap (λ l. x ∷ l) (before_past xs ys fails.1)

  pub from_past : (xs ys : List A) → AllByRecursion (λ x. test x ≡ false) xs → from_first test (xs ++ ys) ≡ from_first test ys
  from_past [] ys fails = refl
  from_past (x ∷ xs) ys fails = ap (λ b. cond b (x ∷ (xs ++ ys)) (from_first test (xs ++ ys))) fails.0 ∙ from_past xs ys fails.1

  pub before_within : (xs ys : List A) → list_any test xs ≡ true → before_first test (xs ++ ys) ≡ before_first test xs
  before_within [] ys e = absurd (let no : ⊥ = cc in no)
  before_within (x ∷ xs) ys e = by_test (test x) e (before_within xs ys) where
    by_test : (b : Bool) → (b || list_any test xs) ≡ true → (list_any test xs ≡ true → before_first test (xs ++ ys) ≡ before_first test xs) → cond b [] (x ∷ before_first test (xs ++ ys)) ≡ cond b [] (x ∷ before_first test xs)
    by_test true h later = refl
    by_test false h later = ap (λ l. x ∷ l) (later h)

  pub from_within : (xs ys : List A) → list_any test xs ≡ true → from_first test (xs ++ ys) ≡ from_first test xs ++ ys
  from_within [] ys e = absurd (let no : ⊥ = cc in no)
  from_within (x ∷ xs) ys e = by_test (test x) e (from_within xs ys) where
    by_test : (b : Bool) → (b || list_any test xs) ≡ true → (list_any test xs ≡ true → from_first test (xs ++ ys) ≡ from_first test xs ++ ys) → cond b (x ∷ (xs ++ ys)) (from_first test (xs ++ ys)) ≡ cond b (x ∷ xs) (from_first test xs) ++ ys
    by_test true h later = refl
    by_test false h later = later h

  pub before_none : (xs : List A) → AllByRecursion (λ x. test x ≡ false) xs → before_first test xs ≡ xs
  before_none [] fails = refl
  before_none (x ∷ xs) fails = ap (λ b. cond b [] (x ∷ before_first test xs)) fails.0 ∙ ap (λ l. x ∷ l) (before_none xs fails.1)

  pub before_contains : (xs : List A) (x : A) → Contains (before_first test xs) x → Contains xs x
  before_contains xs x c = subst (λ l. Contains l x) (parts_join xs) (contains_front (before_first test xs) (from_first test xs) x c)

  pub from_contains : (xs : List A) (x : A) → Contains (from_first test xs) x → Contains xs x
  from_contains xs x c = subst (λ l. Contains l x) (parts_join xs) (contains_back (before_first test xs) (from_first test xs) x c)

-- what passes a test
module _ {A : Type 0} where
  pub filter_here : (test : A → Bool) (xs : List A) (x : A) → Contains xs x → test x ≡ true → Contains (filter test xs) x
  filter_here test [] x c is = absurd (contains_none x c)
  filter_here test (y ∷ ys) x c is = by_place (contains_cases y ys x c) (filter_here test ys x) where
    by_place : (y ≡ x) ⊎ Contains ys x → (Contains ys x → test x ≡ true → Contains (filter test ys) x) → Contains (cond (test y) (y ∷ filter test ys) (filter test ys)) x
    by_place (inl e) later = subst (λ b. Contains (cond b (y ∷ filter test ys) (filter test ys)) x) (sym (ap test e ∙ is)) (subst (λ z. Contains (z ∷ filter test ys) x) (sym e) (contains_here x (filter test ys)))
    by_place (inr c) later = by_test (test y) where
      by_test : (b : Bool) → Contains (cond b (y ∷ filter test ys) (filter test ys)) x
      by_test true = contains_later y (filter test ys) x (later c is)
      by_test false = later c is

  pub filter_item : (test : A → Bool) (xs : List A) (x : A) → Contains (filter test xs) x → Contains xs x × (test x ≡ true)
  filter_item test [] x c = absurd (contains_none x c)
  filter_item test (y ∷ ys) x c = by_test (test y) refl c (filter_item test ys x) where
    by_test : (b : Bool) → test y ≡ b → Contains (cond b (y ∷ filter test ys) (filter test ys)) x → (Contains (filter test ys) x → Contains ys x × (test x ≡ true)) → Contains (y ∷ ys) x × (test x ≡ true)
    by_test false is c later = let r = later c in (contains_later y ys x r.0, r.1)
    by_test true is c later = by_place (contains_cases y (filter test ys) x c) where
      by_place : (y ≡ x) ⊎ Contains (filter test ys) x → Contains (y ∷ ys) x × (test x ≡ true)
      by_place (inl e) = (subst (λ z. Contains (z ∷ ys) x) (sym e) (contains_here x ys), sym (ap test e) ∙ is)
      by_place (inr d) = let r = later d in (contains_later y ys x r.0, r.1)

  pub filter_append : (test : A → Bool) (xs ys : List A) → filter test (xs ++ ys) ≡ filter test xs ++ filter test ys
  filter_append test [] ys = refl
  filter_append test (x ∷ xs) ys = by_test (test x) (filter_append test xs ys) where
    by_test : (b : Bool) → filter test (xs ++ ys) ≡ filter test xs ++ filter test ys → cond b (x ∷ filter test (xs ++ ys)) (filter test (xs ++ ys)) ≡ cond b (x ∷ filter test xs) (filter test xs) ++ filter test ys
    by_test true e = ap (λ l. x ∷ l) e
    by_test false e = e

  -- all pass, or none does
  pub filter_all : (test : A → Bool) (xs : List A) → AllByRecursion (λ x. test x ≡ true) xs → filter test xs ≡ xs
  filter_all test [] all = refl
  filter_all test (x ∷ xs) all = ap (λ b. cond b (x ∷ filter test xs) (filter test xs)) all.0 ∙ ap (λ l. x ∷ l) (filter_all test xs all.1)

  pub filter_nothing : (test : A → Bool) (xs : List A) → AllByRecursion (λ x. test x ≡ false) xs → filter test xs ≡ []
  filter_nothing test [] all = refl
  filter_nothing test (x ∷ xs) all = ap (λ b. cond b (x ∷ filter test xs) (filter test xs)) all.0 ∙ filter_nothing test xs all.1

  -- tests that agree at each item keep the same
  pub filter_same : (p q : A → Bool) (xs : List A) → AllByRecursion (λ x. p x ≡ q x) xs → filter p xs ≡ filter q xs
  filter_same p q [] all = refl
  filter_same p q (x ∷ xs) all = ap (λ b. cond b (x ∷ filter p xs) (filter p xs)) all.0 ∙ ap (λ l. cond (q x) (x ∷ l) l) (filter_same p q xs all.1)

  pub filter_twice : (p q : A → Bool) (xs : List A) → filter p (filter q xs) ≡ filter (λ x. q x && p x) xs
  filter_twice p q [] = refl
  filter_twice p q (x ∷ xs) = by_test (q x) (filter_twice p q xs) where
    by_test : (b : Bool) → filter p (filter q xs) ≡ filter (λ x. q x && p x) xs
        → filter p (cond b (x ∷ filter q xs) (filter q xs)) ≡ cond (b && p x) (x ∷ filter (λ x. q x && p x) xs) (filter (λ x. q x && p x) xs)
    by_test true e = ap (λ l. cond (p x) (x ∷ l) l) e
    by_test false e = e

  pub filter_any : (p q : A → Bool) (xs : List A) → list_any p (filter q xs) ≡ list_any (λ x. q x && p x) xs
  filter_any p q [] = refl
  filter_any p q (x ∷ xs) = by_test (q x) (filter_any p q xs) where
    by_test : (b : Bool) → list_any p (filter q xs) ≡ list_any (λ x. q x && p x) xs
        → list_any p (cond b (x ∷ filter q xs) (filter q xs)) ≡ ((b && p x) || list_any (λ x. q x && p x) xs)
    by_test true e = ap (λ b. p x || b) e
    by_test false e = e

-- what a function gives of the items
module _ {A B : Type 0} (f : A → Option B) where
  pub given_append : (xs ys : List A) → filter_map f (xs ++ ys) ≡ filter_map f xs ++ filter_map f ys
  given_append [] ys = refl
  given_append (x ∷ xs) ys = by_given (f x) (given_append xs ys) where
    by_given : (o : Option B) → filter_map f (xs ++ ys) ≡ filter_map f xs ++ filter_map f ys → cons_option o (filter_map f (xs ++ ys)) ≡ cons_option o (filter_map f xs) ++ filter_map f ys
    by_given None e = e
    by_given (Some y) e = ap (λ l. y ∷ l) e

  pub given_item : (xs : List A) (y : B) → Contains (filter_map f xs) y → (x : A) × Contains xs x × (f x ≡ Some y)
  given_item [] y c = absurd (contains_none y c)
  given_item (x ∷ xs) y c = by_given (f x) refl c (given_item xs y) where
    by_given : (o : Option B) → f x ≡ o → Contains (cons_option o (filter_map f xs)) y → (Contains (filter_map f xs) y → (z : A) × Contains xs z × (f z ≡ Some y)) → (z : A) × Contains (x ∷ xs) z × (f z ≡ Some y)
    by_given None is c later = let r = later c in (r.0, contains_later x xs r.0 r.1, r.2)
    by_given (Some b) is c later = by_place (contains_cases b (filter_map f xs) y c) where
      by_place : (b ≡ y) ⊎ Contains (filter_map f xs) y → (z : A) × Contains (x ∷ xs) z × (f z ≡ Some y)
      by_place (inl e) = (x, contains_here x xs, is ∙ ap Some e)
      by_place (inr d) = let r = later d in (r.0, contains_later x xs r.0 r.1, r.2)

  pub given_here : (xs : List A) (x : A) (y : B) → Contains xs x → f x ≡ Some y → Contains (filter_map f xs) y
  given_here [] x y c is = absurd (contains_none x c)
  given_here (z ∷ zs) x y c is = by_place (contains_cases z zs x c) (given_here zs x y) where
    by_place : (z ≡ x) ⊎ Contains zs x → (Contains zs x → f x ≡ Some y → Contains (filter_map f zs) y) → Contains (cons_option (f z) (filter_map f zs)) y
    by_place (inl e) later = subst (λ o. Contains (cons_option o (filter_map f zs)) y) (sym (ap f e ∙ is)) (contains_here y (filter_map f zs))
    by_place (inr c) later = by_given (f z) where
      by_given : (o : Option B) → Contains (cons_option o (filter_map f zs)) y
      by_given None = later c is
      by_given (Some b) = contains_later b (filter_map f zs) y (later c is)

  pub given_none : (xs : List A) → AllByRecursion (λ x. f x ≡ None) xs → filter_map f xs ≡ []
  given_none [] all = refl
  given_none (x ∷ xs) all = ap (λ o. cons_option o (filter_map f xs)) all.0 ∙ given_none xs all.1

-- the list with the first item that passes changed, and without it
module _ {A : Type 0} (test : A → Bool) where
  pub change_map : {B : Type 0} (g : A → B) (f : A → A) (xs : List A) → ((x : A) → g (f x) ≡ g x) → map g (change_first test f xs) ≡ map g xs
  change_map g f [] same = refl
  change_map g f (x ∷ xs) same = by_test (test x) (change_map g f xs same) where
    by_test : (b : Bool) → map g (change_first test f xs) ≡ map g xs → map g (cond b (f x ∷ xs) (x ∷ change_first test f xs)) ≡ g x ∷ map g xs
    by_test true e = ap (λ y. y ∷ map g xs) (same x)
    by_test false e = ap (λ l. g x ∷ l) e

  pub change_find : (f : A → A) (xs : List A) (x : A) → ((y : A) → test (f y) ≡ test y) → find test xs ≡ Some x → find test (change_first test f xs) ≡ Some (f x)
  change_find f [] x same e = absurd (none_some e)
  change_find f (y ∷ ys) x same e = by_test (test y) refl e (change_find f ys x same) where
    by_test : (b : Bool) → test y ≡ b → cond b (Some y) (find test ys) ≡ Some x → (find test ys ≡ Some x → find test (change_first test f ys) ≡ Some (f x)) → find test (cond b (f y ∷ ys) (y ∷ change_first test f ys)) ≡ Some (f x)
    by_test true is h later = ap (λ b. cond b (Some (f y)) (find test ys)) (same y ∙ is) ∙ ap (λ z. Some (f z)) (some_same h)
    by_test false is h later = ap (λ b. cond b (Some y) (find test (change_first test f ys))) is ∙ later h

  -- nothing passes: nothing changes
  pub change_nothing : (f : A → A) (xs : List A) → find test xs ≡ None → change_first test f xs ≡ xs
  change_nothing f [] e = refl
  change_nothing f (x ∷ xs) e = by_test (test x) e (change_nothing f xs) where
    by_test : (b : Bool) → cond b (Some x) (find test xs) ≡ None → (find test xs ≡ None → change_first test f xs ≡ xs) → cond b (f x ∷ xs) (x ∷ change_first test f xs) ≡ x ∷ xs
    by_test true h later = absurd (none_some (sym h))
    by_test false h later = ap (λ l. x ∷ l) (later h)

  pub without_nothing : (xs : List A) → find test xs ≡ None → without_first test xs ≡ xs
  without_nothing [] e = refl
  without_nothing (x ∷ xs) e = by_test (test x) e (without_nothing xs) where
    by_test : (b : Bool) → cond b (Some x) (find test xs) ≡ None → (find test xs ≡ None → without_first test xs ≡ xs) → cond b xs (x ∷ without_first test xs) ≡ x ∷ xs
    by_test true h later = absurd (none_some (sym h))
    by_test false h later = ap (λ l. x ∷ l) (later h)

  pub without_contains : (xs : List A) (x : A) → Contains (without_first test xs) x → Contains xs x
  without_contains [] x c = c
  without_contains (y ∷ ys) x c = by_test (test y) c (without_contains ys x) where
    by_test : (b : Bool) → Contains (cond b ys (y ∷ without_first test ys)) x → (Contains (without_first test ys) x → Contains ys x) → Contains (y ∷ ys) x
    by_test true c later = contains_later y ys x c
    by_test false c later = by_place (contains_cases y (without_first test ys) x c) where
      by_place : (y ≡ x) ⊎ Contains (without_first test ys) x → Contains (y ∷ ys) x
      by_place (inl e) = subst (λ z. Contains (z ∷ ys) x) (sym e) (contains_here x ys)
      by_place (inr d) = contains_later y ys x (later d)

  -- an item is the one that was found, or is left without it
  pub without_cases : (xs : List A) (x o : A) → Contains xs x → find test xs ≡ Some o → (o ≡ x) ⊎ Contains (without_first test xs) x
  without_cases [] x o c e = absurd (contains_none x c)
  without_cases (y ∷ ys) x o c e = by_test (test y) e (contains_cases y ys x c) (without_cases ys x o) where
    by_test : (b : Bool) → cond b (Some y) (find test ys) ≡ Some o → (y ≡ x) ⊎ Contains ys x → (Contains ys x → find test ys ≡ Some o → (o ≡ x) ⊎ Contains (without_first test ys) x)
        → (o ≡ x) ⊎ Contains (cond b ys (y ∷ without_first test ys)) x
    by_test true h (inl e) later = inl (sym (some_same h) ∙ e)
    by_test true h (inr d) later = inr d
    by_test false h (inl e) later = inr (subst (λ z. Contains (z ∷ without_first test ys) x) (sym e) (contains_here x (without_first test ys)))
    by_test false h (inr d) later = by_rest (later d h) where
      by_rest : (o ≡ x) ⊎ Contains (without_first test ys) x → (o ≡ x) ⊎ Contains (y ∷ without_first test ys) x
      by_rest (inl e) = inl e
      by_rest (inr d) = inr (contains_later y (without_first test ys) x d)

  -- where the others fail, the list without it is what fails
  pub without_filter : (xs : List A) → AllByRecursion (λ x. test x ≡ false) (without_first test xs) → without_first test xs ≡ filter (λ x. not (test x)) xs
  without_filter [] all = refl
  without_filter (x ∷ xs) all = by_test (test x) refl all (without_filter xs) where
    by_test : (b : Bool) → test x ≡ b → AllByRecursion (λ x. test x ≡ false) (cond b xs (x ∷ without_first test xs)) → (AllByRecursion (λ x. test x ≡ false) (without_first test xs) → without_first test xs ≡ filter (λ x. not (test x)) xs)
        → cond b xs (x ∷ without_first test xs) ≡ cond (not b) (x ∷ filter (λ x. not (test x)) xs) (filter (λ x. not (test x)) xs)
    by_test true is all later = sym (filter_all (λ x. not (test x)) xs (all_map (λ x. test x ≡ false) (λ x. not (test x) ≡ true) (λ x e. ap not e) xs all))
    by_test false is all later = ap (λ l. x ∷ l) (later all.1)

-- an item of a mapped list
module _ {A B : Type 0} where
  pub map_item : (f : A → B) (xs : List A) (y : B) → Contains (map f xs) y → (x : A) × Contains xs x × (f x ≡ y)
  map_item f [] y c = absurd (contains_none y c)
  map_item f (x ∷ xs) y c = by_place (contains_cases (f x) (map f xs) y c) (map_item f xs y) where
    by_place : (f x ≡ y) ⊎ Contains (map f xs) y → (Contains (map f xs) y → (z : A) × Contains xs z × (f z ≡ y)) → (z : A) × Contains (x ∷ xs) z × (f z ≡ y)
    by_place (inl e) later = (x, contains_here x xs, e)
    by_place (inr d) later = let r = later d in (r.0, contains_later x xs r.0 r.1, r.2)

  pub map_here : (f : A → B) (xs : List A) (x : A) → Contains xs x → Contains (map f xs) (f x)
  map_here f [] x c = absurd (contains_none x c)
  map_here f (y ∷ ys) x c = by_place (contains_cases y ys x c) (map_here f ys x) where
    by_place : (y ≡ x) ⊎ Contains ys x → (Contains ys x → Contains (map f ys) (f x)) → Contains (f y ∷ map f ys) (f x)
    by_place (inl e) later = subst (λ z. Contains (f z ∷ map f ys) (f x)) (sym e) (contains_here (f x) (map f ys))
    by_place (inr d) later = contains_later (f y) (map f ys) (f x) (later d)
