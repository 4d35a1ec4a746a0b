-- Which commits stand before one that they may not stand before: it is enough to keep two numbers of those further back.
use Rattle.std.proofs.Common.{◌≡◌, ◌≤◌, ◌<◌, ℕ, suc, ◌+◌, Bool, true, false, ◌||◌, ◌&&◌, List, [], ◌∷◌, length, get_or, drop, Option, Some, None, min, refl, sym, ap, subst, ◌∙◌, inl, inr, arith}
use Rattle.std.specs.Prelude.{not, nat_lt}
use Rattle.std.specs.List.{AllByRecursion, list_any}
use Rattle.std.proofs.lemmas.Bool.{cases_lt, lt-ltb, le-ltb}
use Rattle.std.proofs.Math.Seq.{drop-cons}
use Rattle.ltx_check.specs.declared.commits.Commit.{Commit}
use Rattle.ltx_check.specs.declared.commits.Way.TheVariants as ways
use Rattle.ltx_check.specs.declared.marks.Behind.{Behind}
use Rattle.ltx_check.specs.Replays.{Finds, least_of, unless}
use Rattle.ltx_check.specs.Marks.{AgainstAt, AreApart, is_against, is_against_so, is_batch, batch_number, is_over, least_batch, earliest, IsBehind}
use Rattle.ltx_check.proofs.Seats.{or_false}
use Rattle.ltx_check.proofs.Replaying.{finds_least}

-- ---- the least of two numbers

-- a number is over the least of two where it is over one of them
over_min : (n a b : ℕ) → nat_lt (min a b) n ≡ (nat_lt a n || nat_lt b n)
over_min n a b = elim (cases_lt a n) [
  | inl low ↦ let least : min a b < n = omega (arith, low) in rw (lt-ltb (min a b) n least, lt-ltb a n low) refl
  | inr high ↦ elim (cases_lt b n) [
    | inl low ↦ let least : min a b < n = omega (arith, low) in rw (lt-ltb (min a b) n least, le-ltb a n high, lt-ltb b n low) refl
    | inr high' ↦ let least : n ≤ min a b = omega (arith, high, high') in rw (le-ltb (min a b) n least, le-ltb a n high, le-ltb b n high') refl
  ]
]

over_least : (n : ℕ) (a b : Option ℕ) → is_over n (least_of a b) ≡ (is_over n a || is_over n b)
over_least n None b = refl
over_least n (Some a) None = by (nat_lt a n) where
  by : (t : Bool) → t ≡ (t || false)
  by true = refl
  by false = refl
over_least n (Some a) (Some b) = over_min n a b

over_batch : (b : Bool) (m n : ℕ) → is_over n (batch_number b m) ≡ (b && nat_lt m n)
over_batch true m n = refl
over_batch false m n = refl

-- ---- what is behind

any_earlier : (place : ℕ) (run : List Commit) → list_any (λ y. nat_lt y.place place) run ≡ is_over place (earliest run)
any_earlier place [] = refl
any_earlier place (y ∷ run) = ap (λ t. nat_lt y.place place || t) (any_earlier place run) ∙ sym (over_least place (Some y.place) (earliest run))

any_smaller : (number : ℕ) (run : List Commit) → list_any (λ y. is_batch y.way && nat_lt y.number number) run ≡ is_over number (least_batch run)
any_smaller number [] = refl
any_smaller number (y ∷ run) =
    let first : (is_batch y.way && nat_lt y.number number) ≡ is_over number (batch_number (is_batch y.way) y.number) = sym (over_batch (is_batch y.way) y.number number) in
    let rest = any_smaller number run in
    (λ i. first i || rest i) ∙ sym (over_least number (batch_number (is_batch y.way) y.number) (least_batch run))

none_any : (run : List Commit) → list_any (λ (y : Commit). false) run ≡ false
none_any [] = refl
none_any (y ∷ run) = none_any run

module _ (kept : Behind) (x : Commit) (run : List Commit) (behind : IsBehind kept run) where
  pub against_short : x.way ≡ ways.Short → list_any (is_against x) run ≡ is_over x.place kept.earliest
  against_short is = ap (λ w. list_any (is_against_so w x) run) is ∙ any_earlier x.place run ∙ ap (is_over x.place) (sym behind.earliest)

  pub against_home : x.way ≡ ways.Home → list_any (is_against x) run ≡ is_over x.number kept.batch
  against_home is = ap (λ w. list_any (is_against_so w x) run) is ∙ any_smaller x.number run ∙ ap (is_over x.number) (sym behind.batch)

  pub against_forwarded : x.way ≡ ways.Forwarded → list_any (is_against x) run ≡ false
  against_forwarded is = ap (λ w. list_any (is_against_so w x) run) is ∙ none_any run

-- ---- one commit more, in front

any_none : {A : Type 0} (test : A → Bool) (xs : List A) → list_any test xs ≡ false → AllByRecursion (λ y. test y ≡ false) xs
any_none test [] none = tt
any_none test (x ∷ xs) none = let both = or_false (test x) (list_any test xs) none in (both.0, any_none test xs both.1)

none_is : {A : Type 0} (test : A → Bool) (xs : List A) → AllByRecursion (λ y. test y ≡ false) xs → list_any test xs ≡ false
none_is test [] none = refl
none_is test (x ∷ xs) none = rw none.0 (none_is test xs none.1)

some_none : {A : Type 0} (test : A → Bool) (xs : List A) → AllByRecursion (λ y. test y ≡ false) xs → list_any test xs ≡ true → ⊥
some_none test xs none some = let e : false ≡ true = sym (none_is test xs none) ∙ some in cc

pub apart_no_against : (run : List Commit) → AreApart run → (place : ℕ) → AgainstAt run place → ⊥
apart_no_against [] apart place against = against
apart_no_against (x ∷ run) apart place (inl against) = some_none (is_against x) run apart.0 against.1
apart_no_against (x ∷ run) apart place (inr against) = apart_no_against run apart.1 place against

One : Commit → List Commit → ℕ → Type 0
One x run place = (place ≡ x.place) × (list_any (is_against x) run ≡ true)

one_found : (x : Commit) (run : List Commit) (allowed : Bool) → allowed ≡ not (list_any (is_against x) run) → Finds (AllByRecursion (λ y. is_against x y ≡ false) run) (One x run) (unless allowed x.place)
unfolding One
one_found x run allowed is = by allowed (list_any (is_against x) run) refl is where
  by : (a t : Bool) → list_any (is_against x) run ≡ t → a ≡ not t → Finds (AllByRecursion (λ y. is_against x y ≡ false) run) (One x run) (unless a x.place)
  by true false any same = any_none (is_against x) run any
  by false true any same = ((refl, any), λ p d. omega (arith, d.0))
  by true true any same = cc
  by false false any same = cc

-- of these commits this is kept and found
pub record Standing (run : List Commit) (kept : Behind) (first : Option ℕ) : Type 0 where
  pub behind : IsBehind kept run
  pub finds : Finds (AreApart run) (AgainstAt run) first

pub standing_none : (run : List Commit) (kept : Behind) (first : Option ℕ) → run ≡ [] → IsBehind kept [] → first ≡ None → Standing run kept first
standing_none run kept first empty behind none =
    subst (λ r. Standing r kept first) (sym empty) (subst (Standing [] kept) (sym none) (record { behind = behind; finds = tt }))

pub standing_more : (x : Commit) (run : List Commit) (old new : Behind) (first next : Option ℕ) (allowed : Bool) → Standing run old first → allowed ≡ not (list_any (is_against x) run)
    → IsBehind new (x ∷ run) → next ≡ least_of (unless allowed x.place) first → Standing (x ∷ run) new next
unfolding One
standing_more x run old new first next allowed standing is behind found = record {
  behind = behind;
  finds = subst (Finds (AreApart (x ∷ run)) (AgainstAt (x ∷ run))) (sym found)
      (finds_least (AllByRecursion (λ y. is_against x y ≡ false) run) (AreApart run) (AreApart (x ∷ run)) (One x run) (AgainstAt run) (AgainstAt (x ∷ run))
      (λ g h. (g, h)) (λ p d. inl d) (λ p d. inr d) (λ p d. d) (λ g p d. some_none (is_against x) run g d.1) (λ h p d. apart_no_against run h p d)
      (unless allowed x.place) first (one_found x run allowed is) standing.finds);
}

pub drop_here : (run : List Commit) (i j : ℕ) (x : Commit) → j ≡ i + 1 → i < length run → x ≡ get_or run i x → drop i run ≡ x ∷ drop j run
drop_here run i j x next low is = drop-cons run i x low ∙ (λ k. sym is k ∷ drop (after k) run) where
  after : suc i ≡ j
  after = omega (arith, next)
