-- The pairs of a range: those from its lower end on that are below its upper end, which a walk gives one after another.
use Rattle.std.proofs.Common.{◌≡◌, ℕ, true, false, cond, ◌||◌, List, [], ◌∷◌, refl, sym, ap, ◌∙◌, inl, inr}
use Rattle.std.specs.List.{AllByRecursion}
use Rattle.std.specs.List.Sorted.{IsStrictlySortedBy}
use Rattle.std.specs.Map.{keys_of}
use Rattle.std.specs.declared.cmp.Ordering.{Ordering}
use Rattle.std.specs.declared.cmp.Ordering.TheVariants.{Less, Equal, Greater}
use Rattle.std.specs.Ordering.{is_lt, is_le, ordering_reverse}
use Rattle.std.specs.Cmp.Lexicographic.{nat_list_cmp_total}
use Rattle.std.proofs.lemmas.Bool.{cases_Bool}
use Rattle.ltx_model.specs.Keys.{key_cmp, is_empty}
use Rattle.ltx_index.specs.Pairs.{IsInOrder, pairs_from}
use Rattle.ltx_check.specs.Tables.{Pairs, under, between}
use Rattle.ltx_check.proofs.Seats.{or_false}

past_end : (o : Ordering) (key high : List ℕ) → key_cmp key high ≡ o → is_lt o ≡ false → key_cmp high key ≡ ordering_reverse o
past_end o key high is past = nat_list_cmp_total.antisymm high key ∙ ap ordering_reverse is

above_end : (key next high : List ℕ) (o : Ordering) → key_cmp key high ≡ o → is_lt o ≡ false → key_cmp key next ≡ Less → is_lt (key_cmp next high) ≡ false
above_end key next high Less is past less = cc
above_end key next high Equal is past less =
    let same : key_cmp key next ≡ key_cmp high next = nat_list_cmp_total.congr key high next is in
    rw (nat_list_cmp_total.antisymm next high, sym same ∙ less) refl
above_end key next high Greater is past less =
    let less_end : key_cmp high next ≡ Less = nat_list_cmp_total.trans high key next (past_end Greater key high is past) less in
    rw (nat_list_cmp_total.antisymm next high, less_end) refl

module _ (high : List ℕ) where
  none_past : (key : List ℕ) (pairs : Pairs) → is_empty high ≡ false → is_lt (key_cmp key high) ≡ false → AllByRecursion (λ k. key_cmp key k ≡ Less) (keys_of pairs) → under high pairs ≡ []
  none_past key [] some past all = refl
  none_past key (q ∷ qs) some past all = rw (some, above_end key q.0 high (key_cmp key high) refl past all.0) (none_past key qs some past all.1)

  pub one_under : (p : List ℕ × List ℕ) (rest : Pairs) → (is_empty high || is_lt (key_cmp p.0 high)) ≡ true → under high (p ∷ rest) ≡ p ∷ under high rest
  one_under p rest below = rw below refl

  pub none_under : (p : List ℕ × List ℕ) (rest : Pairs) → IsInOrder (p ∷ rest) → (is_empty high || is_lt (key_cmp p.0 high)) ≡ false → under high (p ∷ rest) ≡ []
  unfolding IsStrictlySortedBy
  none_under p rest order past =
      let apart = or_false (is_empty high) (is_lt (key_cmp p.0 high)) past in
      rw past (none_past p.0 rest apart.0 apart.1 order.0)

  pub range_is : (low : List ℕ) (pairs : Pairs) → under high (pairs_from pairs low false) ≡ between low high pairs
  range_is low [] = refl
  range_is low (q ∷ qs) = elim (cases_Bool (is_le (key_cmp low q.0))) [
    | inl at ↦ rw at (ap (λ l. cond (is_empty high || is_lt (key_cmp q.0 high)) (q ∷ l) l) (range_is low qs))
    | inr short ↦ rw short (range_is low qs)
  ]

  pub in_order_rest : (p : List ℕ × List ℕ) (rest : Pairs) → IsInOrder (p ∷ rest) → IsInOrder rest
  unfolding IsStrictlySortedBy
  in_order_rest p rest order = order.1
