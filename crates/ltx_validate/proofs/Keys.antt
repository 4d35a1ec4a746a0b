-- A search among keys in their order.
use Rattle.std.proofs.Common.{◌≡◌, inl, inr, ℕ, ◌+◌, List, [], length, get_or, Ok, Err, Result, is_ok, sym, ap, arith}
use Rattle.std.specs.List.Sorted.{IsStrictlySortedBy, IsSortedBy, IsSearchInRange, IsBinarySearchResult}
use Rattle.std.specs.declared.cmp.Ordering.TheVariants.{Less}
use Rattle.std.specs.Ordering.{is_eq, is_lt}
use Rattle.std.proofs.lemmas.Bool.{cases_lt}
use Rattle.std.proofs.lemmas.List.Folds.{list_any_at, list_any_none}
use Rattle.std.proofs.lemmas.List.Sorted.{searchable_from_sorted}
use Rattle.std.proofs.lemmas.Map.Keys.{Less-from_sorted}
use Rattle.ltx_model.specs.Keys.{key_cmp}
use Rattle.ltx_model.proofs.KeyOrder.{key_total, key_turned}
use Rattle.ltx_model.specs.Notes.{is_one_of}

module _ (own : List (List ℕ)) (sorted : IsStrictlySortedBy key_cmp own) where
  never_falls : IsSortedBy (λ a b. is_lt (key_cmp a b)) own
  never_falls k d low high = ap is_lt (key_turned (get_or own k d) (get_or own (k + 1) d) Less (Less-from_sorted key_cmp own k (k + 1) d sorted (omega arith) high))

  -- a search by key finds it exactly where it is one of these
  pub searched : (key : List ℕ) (r : Result ℕ ℕ) → IsSearchInRange r (length own) → IsBinarySearchResult (λ k. key_cmp k key) own r → is_ok r ≡ is_one_of own key
  searched key (Ok i) within tied = sym (list_any_at (λ k. is_eq (key_cmp k key)) own i [] within (ap is_eq (tied [])))
  searched key (Err i) within parted =
      let parts = parted (searchable_from_sorted key_total (λ k. k) own key never_falls) in
      sym (list_any_none (λ k. is_eq (key_cmp k key)) own (λ j d lt. elim (cases_lt j i) [
        | inl before ↦ ap is_eq (parts.0 j d (omega arith) before)
        | inr behind ↦ ap is_eq (parts.1 j d behind lt)
      ]))
