-- The next key whose stamps pass a test, found by a walk.
use Rattle.std.proofs.Common.{◌≡◌, ℕ, Bool, true, false, List, [], ◌∷◌, Option, Some, None, refl, sym, ap, ◌∙◌, subst, cond}
use Rattle.std.specs.List.{AllByRecursion}
use Rattle.std.specs.List.Sorted.{IsStrictlySortedBy}
use Rattle.std.specs.Map.{keys_of}
use Rattle.std.specs.declared.cmp.Ordering.{Ordering}
use Rattle.std.specs.declared.cmp.Ordering.TheVariants.{Less, Equal, Greater}
use Rattle.std.specs.Ordering.{is_eq}
use Rattle.std.specs.Cmp.{tied_itself}
use Rattle.std.specs.Cmp.Lexicographic.{nat_list_cmp_total}
use Rattle.std.proofs.lemmas.Bool.{both_ways}
use Rattle.ltx_model.specs.Keys.{key_cmp}
use Rattle.ltx_model.specs.NextKeys.{reaches}
use Rattle.ltx_model.proofs.KeyOrder.{same_keys}
use Rattle.ltx_index.specs.Pairs.{IsInOrder, value_at, pairs_from}
use Rattle.ltx_index.proofs.Lookups.{value_at-pairs_from, value_at-lesser, all_reach, in_order-pairs_from}
use Rattle.ltx_reads.specs.Nexts.{IsLeastFrom, IsNext}
use Rattle.ltx_reads.specs.Places.{Pairs, or_nothing, stamps_in}

-- From the bound on, a key's stamps pass the test in the table where they pass it in what is left.
pub record HasPassed (live : List ℕ → Bool) (from : List ℕ) (strict : Bool) (table left : Pairs) : Type 0 where
  pub order : IsInOrder left
  pub reached : AllByRecursion (λ k. reaches from strict k ≡ true) (keys_of left)
  pub same : (key : List ℕ) → reaches from strict key ≡ true → live (stamps_in table key) ≡ live (stamps_in left key)

below_all : (q key : List ℕ) (pairs : Pairs) → key_cmp q key ≡ Less → AllByRecursion (λ k. key_cmp key k ≡ Less) (keys_of pairs) → AllByRecursion (λ k. key_cmp q k ≡ Less) (keys_of pairs)
below_all q key [] less all = tt
below_all q key (p ∷ ps) less all = (nat_list_cmp_total.trans q key p.0 less all.0, below_all q key ps less all.1)

module _ (live : List ℕ → Bool) (from : List ℕ) (strict : Bool) (table : Pairs) where
  -- no key below the first of these stands among them
  lesser_bare : (q : List ℕ) (p : List ℕ × List ℕ) (rest : Pairs) → IsInOrder (p ∷ rest) → key_cmp q p.0 ≡ Less → stamps_in (p ∷ rest) q ≡ []
  unfolding IsStrictlySortedBy
  lesser_bare q p rest order less = ap or_nothing (value_at-lesser q (p ∷ rest) (less, below_all q p.0 rest less order.0))

  first_here : (p : List ℕ × List ℕ) (rest : Pairs) → stamps_in (p ∷ rest) p.0 ≡ p.1
  first_here p rest = rw (tied_itself nat_list_cmp_total p.0) refl

  -- a first pair that fails the test may go
  bare_first : (q : List ℕ) (p : List ℕ × List ℕ) (rest : Pairs) → IsInOrder (p ∷ rest) → live [] ≡ false → live p.1 ≡ false → live (stamps_in (p ∷ rest) q) ≡ live (stamps_in rest q)
  unfolding IsStrictlySortedBy
  bare_first q p rest order empty none = by_order (key_cmp q p.0) refl where
    by_order : (o : Ordering) → key_cmp q p.0 ≡ o → live (or_nothing (cond (is_eq o) (Some p.1) (value_at rest q))) ≡ live (stamps_in rest q)
    by_order Less is = refl
    by_order Greater is = refl
    by_order Equal is =
        let same : p.0 ≡ q = sym (same_keys q p.0 is) in
        none ∙ sym (ap (λ o. live (or_nothing o)) (value_at-lesser q rest (subst (λ k. AllByRecursion (λ l. key_cmp k l ≡ Less) (keys_of rest)) same order.0)) ∙ empty)

  pub passed_start : IsInOrder table → HasPassed live from strict table (pairs_from table from strict)
  passed_start order = record {
    order = in_order-pairs_from from strict table order;
    reached = all_reach from strict table;
    same = λ key reached. ap (λ o. live (or_nothing o)) (value_at-pairs_from from strict table key reached);
  }

  module _ (p : List ℕ × List ℕ) (rest : Pairs) (s : HasPassed live from strict table (p ∷ rest)) (empty : live [] ≡ false) where
    pub passed_more : live p.1 ≡ false → HasPassed live from strict table rest
    unfolding IsStrictlySortedBy
    passed_more none = record {
      order = s.order.1;
      reached = s.reached.1;
      same = λ key reached. s.same key reached ∙ bare_first key p rest s.order empty none;
    }

    pub found_next : live p.1 ≡ true → IsLeastFrom from strict (λ key. live (stamps_in table key)) p.0
    found_next passes = record {
      within = s.reached.0;
      passes = s.same p.0 s.reached.0 ∙ ap live (first_here p rest) ∙ passes;
      least = λ q reached here less. both_ways _ (ap live (lesser_bare q p rest s.order less) ∙ empty) (sym (s.same q reached) ∙ here);
    }

  pub found_none : live [] ≡ false → HasPassed live from strict table [] → (key : List ℕ) → reaches from strict key ≡ true → live (stamps_in table key) ≡ true → ⊥
  found_none empty s key reached here = both_ways _ (s.same key reached ∙ empty) here
