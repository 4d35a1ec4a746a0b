-- The next key with a row, found by a walk.
use Rattle.std.proofs.Common.{◌≡◌, ℕ, Bool, List, [], ◌∷◌, Some, None, refl, sym, ap, ◌∙◌, subst, cond}
use Rattle.std.specs.List.{AllByRecursion}
use Rattle.std.specs.List.Sorted.{IsStrictlySortedBy}
use Rattle.std.specs.Map.{keys_of}
use Rattle.std.specs.declared.cmp.Ordering.{Ordering}
use Rattle.std.specs.declared.cmp.Ordering.TheVariants.{Less, Equal, Greater}
use Rattle.std.specs.Ordering.{is_eq}
use Rattle.std.specs.Cmp.{tied_itself}
use Rattle.std.specs.Cmp.Lexicographic.{nat_list_cmp_total}
use Rattle.ltx_model.specs.Keys.{key_cmp}
use Rattle.ltx_index.specs.Pairs.{IsInOrder, value_at, pairs_from}
use Rattle.ltx_model.proofs.KeyOrder.{same_keys}
use Rattle.ltx_index.proofs.Lookups.{value_at-pairs_from, value_at-lesser, all_reach, in_order-pairs_from}
use Rattle.ltx_chain.specs.Versions.{Versions, latest}
use Rattle.ltx_store.specs.Kept.{items_of}
use Rattle.ltx_store.specs.Latest.{putter, putter_at, IsNextPut, HasNoNextPut}
use Rattle.ltx_store.specs.Walks.{HasPassed}

abbrev Pairs : Type 0
Pairs = List (List ℕ × Versions)

below_all : (q key : List ℕ) (pairs : Pairs) → key_cmp q key ≡ Less → AllByRecursion (λ k. key_cmp key k ≡ Less) (keys_of pairs) → AllByRecursion (λ k. key_cmp q k ≡ Less) (keys_of pairs)
below_all q key [] less all = tt
below_all q key (p ∷ ps) less all = (nat_list_cmp_total.trans q key p.0 less all.0, below_all q key ps less all.1)

-- no key below the first of these has a row among them
lesser_bare : (q : List ℕ) (p : List ℕ × Versions) (rest : Pairs) → IsInOrder (p ∷ rest) → key_cmp q p.0 ≡ Less → putter_at (p ∷ rest) q ≡ None
unfolding IsStrictlySortedBy
lesser_bare q p rest order less = ap (λ o. putter (latest (items_of o))) (value_at-lesser q (p ∷ rest) (less, below_all q p.0 rest less order.0))

-- the first one's row
first_here : (p : List ℕ × Versions) (rest : Pairs) → putter_at (p ∷ rest) p.0 ≡ putter (latest p.1.items)
first_here p rest = rw (tied_itself nat_list_cmp_total p.0) refl

-- a first pair without a row may go
bare_first : (q : List ℕ) (p : List ℕ × Versions) (rest : Pairs) → IsInOrder (p ∷ rest) → putter (latest p.1.items) ≡ None → putter_at (p ∷ rest) q ≡ putter_at rest q
unfolding IsStrictlySortedBy
bare_first q p rest order none = by_order (key_cmp q p.0) refl where
  by_order : (o : Ordering) → key_cmp q p.0 ≡ o → putter (latest (items_of (cond (is_eq o) (Some p.1) (value_at rest q)))) ≡ putter_at rest q
  by_order Less is = refl
  by_order Greater is = refl
  by_order Equal is =
      let same : p.0 ≡ q = sym (same_keys q p.0 is) in
      none ∙ sym (ap (λ o. putter (latest (items_of o))) (value_at-lesser q rest (subst (λ k. AllByRecursion (λ l. key_cmp k l ≡ Less) (keys_of rest)) same order.0)))

module _ (from : List ℕ) (strict : Bool) (table : Pairs) where
  pub passed_start : IsInOrder table → HasPassed from strict table (pairs_from table from strict)
  passed_start order = record {
    order = in_order-pairs_from from strict table order;
    reached = all_reach from strict table;
    same = λ key reached. ap (λ o. putter (latest (items_of o))) (value_at-pairs_from from strict table key reached);
  }

  module _ (p : List ℕ × Versions) (rest : Pairs) (s : HasPassed from strict table (p ∷ rest)) where
    pub passed_more : putter (latest p.1.items) ≡ None → HasPassed from strict table rest
    unfolding IsStrictlySortedBy
    passed_more none = record {
      order = s.order.1;
      reached = s.reached.1;
      same = λ key reached. s.same key reached ∙ bare_first key p rest s.order none;
    }

    pub found_put : (writer : ℕ) → putter (latest p.1.items) ≡ Some writer → IsNextPut table from strict p.0 writer
    found_put writer written = record {
      within = s.reached.0;
      written = s.same p.0 s.reached.0 ∙ first_here p rest ∙ written;
      least = λ q reached less. s.same q reached ∙ lesser_bare q p rest s.order less;
    }

  pub found_none : HasPassed from strict table [] → HasNoNextPut table from strict
  found_none s = λ q reached. s.same q reached
