-- What holds of each pair of a list, or of each item, over the changes that are made to open transactions and to the agenda.
use Rattle.std.proofs.Common.{◌≡◌, ℕ, Bool, true, false, cond, ◌==◌, List, [], ◌∷◌, ◌++◌, map, filter, Some, subst, eqb-true}
use Rattle.std.specs.List.{find, AllByRecursion}
use Rattle.ltx_model.specs.Lists.{change_first, without_first, before_first, from_first, IsPairwise}
use Rattle.ltx_model.specs.Agenda.{Member, has_number, insert_before, part_before, part_from}
use Rattle.ltx_lemmas.proofs.Lists.{all_map, all_push, all_filter, all_without, all_find, some_same}

-- numbers and tests
pub same_number : (a b : ℕ) → (a == b) ≡ true → a ≡ b
same_number a b e = eqb-true a b e

module _ {A : Type 0} where
  pub all_of : (P : A → Type 0) → ((x : A) → P x) → (xs : List A) → AllByRecursion P xs
  all_of P f [] = tt
  all_of P f (x ∷ xs) = (f x, all_of P f xs)

  pub all_both : (P Q R : A → Type 0) → ((x : A) → P x → Q x → R x) → (xs : List A) → AllByRecursion P xs → AllByRecursion Q xs → AllByRecursion R xs
  all_both P Q R f [] ps qs = tt
  all_both P Q R f (x ∷ xs) ps qs = (f x ps.0 qs.0, all_both P Q R f xs ps.1 qs.1)

  pub all_before : (P : A → Type 0) (test : A → Bool) (xs : List A) → AllByRecursion P xs → AllByRecursion P (before_first test xs)
  all_before P test [] all = tt
  all_before P test (x ∷ xs) all = by_test (test x) (all_before P test xs all.1) where
    by_test : (b : Bool) → AllByRecursion P (before_first test xs) → AllByRecursion P (cond b [] (x ∷ before_first test xs))
    by_test true rest = tt
    by_test false rest = (all.0, rest)

  pub all_from_first : (P : A → Type 0) (test : A → Bool) (xs : List A) → AllByRecursion P xs → AllByRecursion P (from_first test xs)
  all_from_first P test [] all = tt
  all_from_first P test (x ∷ xs) all = by_test (test x) (all_from_first P test xs all.1) where
    by_test : (b : Bool) → AllByRecursion P (from_first test xs) → AllByRecursion P (cond b (x ∷ xs) (from_first test xs))
    by_test true rest = all
    by_test false rest = rest

  -- an item in the middle is replaced
  pub all_replace : (P Q : A → Type 0) → ((x : A) → P x → Q x) → (front : List A) (o o' : A) (back : List A) → Q o' → AllByRecursion P (front ++ o ∷ back) → AllByRecursion Q (front ++ o' ∷ back)
  all_replace P Q f [] o o' back q all = (q, all_map P Q f back all.1)
  all_replace P Q f (x ∷ front) o o' back q all = (f x all.0, all_replace P Q f front o o' back q all.1)

  pub all_middle : (P : A → Type 0) (front : List A) (o : A) (back : List A) → AllByRecursion P (front ++ o ∷ back) → P o
  all_middle P [] o back all = all.0
  all_middle P (x ∷ front) o back all = all_middle P front o back all.1

  pub pairs_weaken : (P : A → Type 0) (R Q : A → A → Type 0) → ((x y : A) → P x → P y → R x y → Q x y) → (xs : List A) → AllByRecursion P xs → IsPairwise R xs → IsPairwise Q xs
  pairs_weaken P R Q f [] all pairs = tt
  pairs_weaken P R Q f (x ∷ xs) all pairs = (all_both P (R x) (Q x) (λ y p r. f x y all.0 p r) xs all.1 pairs.0, pairs_weaken P R Q f xs all.1 pairs.1)

  pub pairs_all : (R Q : A → A → Type 0) → ((x y : A) → R x y → Q x y) → (xs : List A) → IsPairwise R xs → IsPairwise Q xs
  pairs_all R Q f [] pairs = tt
  pairs_all R Q f (x ∷ xs) pairs = (all_map (R x) (Q x) (f x) xs pairs.0, pairs_all R Q f xs pairs.1)

  -- from what holds of each item, and of each pair in two ways
  pub pairs_both : (P : A → Type 0) (R Q S : A → A → Type 0) → ((x y : A) → P x → P y → R x y → Q x y → S x y) → (xs : List A) → AllByRecursion P xs → IsPairwise R xs → IsPairwise Q xs → IsPairwise S xs
  pairs_both P R Q S f [] all r q = tt
  pairs_both P R Q S f (x ∷ xs) all r q = (each xs all.1 r.0 q.0, pairs_both P R Q S f xs all.1 r.1 q.1) where
    each : (ys : List A) → AllByRecursion P ys → AllByRecursion (R x) ys → AllByRecursion (Q x) ys → AllByRecursion (S x) ys
    each [] ps rs qs = tt
    each (y ∷ ys) ps rs qs = (f x y all.0 ps.0 rs.0 qs.0, each ys ps.1 rs.1 qs.1)

  pub pairs_from : (P : A → Type 0) (R : A → A → Type 0) → ((x y : A) → P x → P y → R x y) → (xs : List A) → AllByRecursion P xs → IsPairwise R xs
  pairs_from P R f [] all = tt
  pairs_from P R f (x ∷ xs) all = (all_map P (R x) (λ y p. f x y all.0 p) xs all.1, pairs_from P R f xs all.1)

  pub pairs_push : (R : A → A → Type 0) (xs : List A) (y : A) → AllByRecursion (λ x. R x y) xs → IsPairwise R xs → IsPairwise R (xs ++ y ∷ [])
  pairs_push R [] y all pairs = (tt, tt)
  pairs_push R (x ∷ xs) y all pairs = (all_push (R x) xs y pairs.0 all.0, pairs_push R xs y all.1 pairs.1)

  pub pairs_filter : (R : A → A → Type 0) (test : A → Bool) (xs : List A) → IsPairwise R xs → IsPairwise R (filter test xs)
  pairs_filter R test [] pairs = tt
  pairs_filter R test (x ∷ xs) pairs = by_test (test x) (pairs_filter R test xs pairs.1) where
    by_test : (b : Bool) → IsPairwise R (filter test xs) → IsPairwise R (cond b (x ∷ filter test xs) (filter test xs))
    by_test true rest = (all_filter (R x) test xs pairs.0, rest)
    by_test false rest = rest

  pub pairs_without : (R : A → A → Type 0) (test : A → Bool) (xs : List A) → IsPairwise R xs → IsPairwise R (without_first test xs)
  pairs_without R test [] pairs = tt
  pairs_without R test (x ∷ xs) pairs = by_test (test x) (pairs_without R test xs pairs.1) where
    by_test : (b : Bool) → IsPairwise R (without_first test xs) → IsPairwise R (cond b xs (x ∷ without_first test xs))
    by_test true rest = pairs.1
    by_test false rest = (all_without (R x) test xs pairs.0, rest)

  all_change_same : (P : A → Type 0) (test : A → Bool) (f : A → A) → ((x : A) → P x → P (f x)) → (xs : List A) → AllByRecursion P xs → AllByRecursion P (change_first test f xs)
  all_change_same P test f keep [] all = tt
  all_change_same P test f keep (x ∷ xs) all = by_test (test x) (all_change_same P test f keep xs all.1) where
    by_test : (b : Bool) → AllByRecursion P (change_first test f xs) → AllByRecursion P (cond b (f x ∷ xs) (x ∷ change_first test f xs))
    by_test true rest = (keep x all.0, all.1)
    by_test false rest = (all.0, rest)

  pub pairs_change : (R : A → A → Type 0) (test : A → Bool) (f : A → A) → ((x y : A) → R x y → R (f x) y) → ((x y : A) → R x y → R x (f y)) → (xs : List A) → IsPairwise R xs → IsPairwise R (change_first test f xs)
  pairs_change R test f left right [] pairs = tt
  pairs_change R test f left right (x ∷ xs) pairs = by_test (test x) (pairs_change R test f left right xs pairs.1) where
    by_test : (b : Bool) → IsPairwise R (change_first test f xs) → IsPairwise R (cond b (f x ∷ xs) (x ∷ change_first test f xs))
    by_test true rest = (all_map (R x) (R (f x)) (λ y. left x y) xs pairs.0, pairs.1)
    by_test false rest = (all_change_same (R x) test f (λ y. right x y) xs pairs.0, rest)

  pub pairs_map : (R Q : A → A → Type 0) (f : A → A) → ((x y : A) → R x y → Q (f x) (f y)) → (xs : List A) → IsPairwise R xs → IsPairwise Q (map f xs)
  pairs_map R Q f keep [] pairs = tt
  pairs_map R Q f keep (x ∷ xs) pairs = (mapped xs pairs.0, pairs_map R Q f keep xs pairs.1) where
    mapped : (ys : List A) → AllByRecursion (R x) ys → AllByRecursion (Q (f x)) (map f ys)
    mapped [] all = tt
    mapped (y ∷ ys) all = (keep x y all.0, mapped ys all.1)

  -- an item in the middle is replaced by one that stands alike
  pub pairs_replace : (R : A → A → Type 0) (o o' : A) → ((x : A) → R x o → R x o') → ((y : A) → R o y → R o' y) → (front back : List A) → IsPairwise R (front ++ o ∷ back) → IsPairwise R (front ++ o' ∷ back)
  pairs_replace R o o' before after [] back pairs = (all_map (R o) (R o') after back pairs.0, pairs.1)
  pairs_replace R o o' before after (x ∷ front) back pairs = (replaced front pairs.0, pairs_replace R o o' before after front back pairs.1) where
    replaced : (ys : List A) → AllByRecursion (R x) (ys ++ o ∷ back) → AllByRecursion (R x) (ys ++ o' ∷ back)
    replaced [] all = (before x all.0, all.1)
    replaced (y ∷ ys) all = (all.0, replaced ys all.1)

  -- the others differ from the first one that passes a test
  pub others_apart : (R : A → A → Type 0) (Q : A → A → Type 0) → ((x y : A) → R x y → Q x y) → ((x y : A) → R y x → Q x y) → (test : A → Bool) (xs : List A) (o : A) → IsPairwise R xs → find test xs ≡ Some o
      → AllByRecursion (Q o) (without_first test xs)
  others_apart R Q front back test [] o pairs e = tt
  others_apart R Q front back test (x ∷ xs) o pairs e = by_test (test x) e (others_apart R Q front back test xs o pairs.1) where
    by_test : (b : Bool) → cond b (Some x) (find test xs) ≡ Some o → (find test xs ≡ Some o → AllByRecursion (Q o) (without_first test xs)) → AllByRecursion (Q o) (cond b xs (x ∷ without_first test xs))
    by_test true is later = let same : x ≡ o = some_same is in subst (λ w. AllByRecursion (Q w) xs) same (all_map (R x) (Q x) (front x) xs pairs.0)
    by_test false is later = (back o x (all_find (R x) test xs o pairs.0 is), later is)

-- a member that is put before the one with a number
module _ (x : Member) (p : ℕ) where
  pub all_insert : (P : Member → Type 0) → P x → (ms : List Member) → AllByRecursion P ms → AllByRecursion P (insert_before x p ms)
  all_insert P px [] all = tt
  all_insert P px (m ∷ ms) all = by_test (has_number p m) (all_insert P px ms all.1) where
    by_test : (b : Bool) → AllByRecursion P (insert_before x p ms) → AllByRecursion P (cond b (x ∷ m ∷ ms) (m ∷ insert_before x p ms))
    by_test true rest = (px, all)
    by_test false rest = (all.0, rest)

  pub pairs_insert : (R : Member → Member → Type 0) (ms : List Member) → AllByRecursion (λ y. R y x) (part_before p ms) → AllByRecursion (R x) (part_from p ms) → IsPairwise R ms → IsPairwise R (insert_before x p ms)
  pairs_insert R [] front back pairs = tt
  pairs_insert R (m ∷ ms) front back pairs = by_test (has_number p m) front back (pairs_insert R ms) where
    by_test : (b : Bool) → AllByRecursion (λ y. R y x) (cond b [] (m ∷ part_before p ms)) → AllByRecursion (R x) (cond b (m ∷ ms) (part_from p ms))
        → (AllByRecursion (λ y. R y x) (part_before p ms) → AllByRecursion (R x) (part_from p ms) → IsPairwise R ms → IsPairwise R (insert_before x p ms))
        → IsPairwise R (cond b (x ∷ m ∷ ms) (m ∷ insert_before x p ms))
    by_test true front back later = (back, pairs)
    by_test false front back later = (all_insert (R m) front.0 ms pairs.0, later front.1 back pairs.1)
