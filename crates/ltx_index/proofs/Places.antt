-- What stands at a place in a run of pairs, and what an edit at that place makes of the run.
use Rattle.std.proofs.Common.{◌≡◌, ℕ, zero, suc, ◌+◌, ◌<◌, ◌≤◌, Bool, true, false, [], ◌∷◌, ◌++◌, List, min, length, take, drop, get_or, Option, Some, None, IsSome, Ok, Err, Result, IfOk, IfErr, slice_get, slice_set, refl, sym, ap, subst, not, ◌⊎◌, inl, inr, ◌∙◌, arith}
use Rattle.std.specs.List.{insert, remove, zip, AllByRecursion, ItemBy}
use Rattle.std.specs.Option.{option_map, unwrap_or}
use Rattle.std.specs.List.Sorted.{IsStrictlySortedBy, IsSortedBy, IsSearchInRange, IsBinarySearchResult, IsPartitionedBy, IsPartitionPoint}
use Rattle.std.specs.Ordering.{ordering_reverse, is_lt, is_le}
use Rattle.std.specs.declared.cmp.Ordering.{Ordering}
use Rattle.std.specs.declared.cmp.Ordering.TheVariants.{Less, Equal, Greater}
use Rattle.std.proofs.lemmas.Cmp.{nat_list_cmp_total}
use Rattle.std.proofs.lemmas.Option.{none-some, same_Some, slice_get-get_or, slice_get_cases, slice_get_past}
use Rattle.std.proofs.lemmas.Map.Made.{keys_of-zip}
use Rattle.std.proofs.lemmas.Slice.Zip.{length-zip}
use Rattle.std.proofs.lemmas.Bool.{false≢true, not-true, not-false, both_ways, cases_Bool, cases_eq}
use Rattle.std.proofs.lemmas.List.{length-set, length-take, length-drop, get_or-take, get_or-drop}
use Rattle.std.proofs.lemmas.List.Edits.{length-insert, length-remove}
use Rattle.std.proofs.lemmas.List.Elements.{recursion_from_All}
use Rattle.std.proofs.lemmas.List.Sorted.{searchable_from_sorted}
use Rattle.std.proofs.lemmas.Map.Keys.{Less-from_sorted}
use Rattle.ltx_model.specs.Keys.{key_cmp}
use Rattle.ltx_model.proofs.KeyOrder.{key_turned, key_itself, same_keys, reaches_past}
use Rattle.ltx_index.specs.Pairs.{IsInOrder, value_at, with_pair, with_value, without_key, pairs_from}
use Rattle.ltx_model.specs.NextKeys.{reaches}
use Rattle.ltx_index.specs.Places.{IsRun, AreAbove, IsFoundAt, IsGapAt, IsStartAt}

module _ (key : List ℕ) where
  found_tail : (k : List ℕ) (ks : List (List ℕ)) (i : ℕ) → IsFoundAt (k ∷ ks) key (suc i) → IsFoundAt ks key i
  found_tail k ks i f = record { in_range = omega (arith, f.in_range); below = f.below.1; here = f.here }

  gap_tail : (k : List ℕ) (ks : List (List ℕ)) (i : ℕ) → IsGapAt (k ∷ ks) key (suc i) → IsGapAt ks key i
  gap_tail k ks i f = record { in_range = omega (arith, f.in_range); below = f.below.1; above = f.above }

module _ {V : Type 0} (key : List ℕ) where
  -- ---- where the key stands

  pub value_at-found : (ks : List (List ℕ)) (vs : List V) (i : ℕ) (v : V) → IsFoundAt ks key i → slice_get vs i ≡ Some v → value_at (zip ks vs) key ≡ Some v
  value_at-found [] vs i v f at = absurd (omega (arith, f.in_range))
  value_at-found (k ∷ ks) [] i v f at = absurd (none-some v at)
  value_at-found (k ∷ ks) (x ∷ xs) zero v f at = rw (same_Some _ _ f.here, key_itself key) at
  value_at-found (k ∷ ks) (x ∷ xs) (suc i) v f at = rw f.below.0 (value_at-found ks xs i v (found_tail key k ks i f) at)

  pub with_value-found : (ks : List (List ℕ)) (vs : List V) (i : ℕ) (w : V) → IsFoundAt ks key i → with_value (zip ks vs) key w ≡ zip ks (slice_set vs i w)
  with_value-found [] vs i w f = refl
  with_value-found (k ∷ ks) [] i w f = refl
  with_value-found (k ∷ ks) (x ∷ xs) zero w f = rw (same_Some _ _ f.here, key_itself key) refl
  with_value-found (k ∷ ks) (x ∷ xs) (suc i) w f = rw (f.below.0, with_value-found ks xs i w (found_tail key k ks i f)) refl

  pub with_pair-found : (ks : List (List ℕ)) (vs : List V) (i : ℕ) (w : V) → length ks ≡ length vs → IsFoundAt ks key i → with_pair (zip ks vs) key w ≡ zip ks (slice_set vs i w)
  with_pair-found [] vs i w same f = absurd (omega (arith, f.in_range))
  with_pair-found (k ∷ ks) [] i w same f = absurd (omega (arith, same))
  with_pair-found (k ∷ ks) (x ∷ xs) zero w same f = rw (same_Some _ _ f.here, key_itself key) refl
  with_pair-found (k ∷ ks) (x ∷ xs) (suc i) w same f = rw (f.below.0, with_pair-found ks xs i w (omega (arith, same)) (found_tail key k ks i f)) refl

  pub without_key-found : (ks : List (List ℕ)) (vs : List V) (i : ℕ) → length ks ≡ length vs → IsFoundAt ks key i → without_key (zip ks vs) key ≡ zip (remove ks i) (remove vs i)
  without_key-found [] vs i same f = absurd (omega (arith, f.in_range))
  without_key-found (k ∷ ks) [] i same f = absurd (omega (arith, same))
  without_key-found (k ∷ ks) (x ∷ xs) zero same f = rw (same_Some _ _ f.here, key_itself key) refl
  without_key-found (k ∷ ks) (x ∷ xs) (suc i) same f = rw (f.below.0, without_key-found ks xs i (omega (arith, same)) (found_tail key k ks i f)) refl

  -- ---- where it does not stand

  pub value_at-above : (ks : List (List ℕ)) (vs : List V) → AreAbove key ks → value_at (zip ks vs) key ≡ None
  value_at-above [] vs above = refl
  value_at-above (k ∷ ks) [] above = refl
  value_at-above (k ∷ ks) (x ∷ xs) above = rw above.0 (value_at-above ks xs above.1)

  pub without_key-above : (ks : List (List ℕ)) (vs : List V) → AreAbove key ks → without_key (zip ks vs) key ≡ zip ks vs
  without_key-above [] vs above = refl
  without_key-above (k ∷ ks) [] above = refl
  without_key-above (k ∷ ks) (x ∷ xs) above = rw (above.0, without_key-above ks xs above.1) refl

  pub value_at-gap : (ks : List (List ℕ)) (vs : List V) (i : ℕ) → IsGapAt ks key i → value_at (zip ks vs) key ≡ None
  value_at-gap ks vs zero f = value_at-above ks vs f.above
  value_at-gap [] vs (suc i) f = refl
  value_at-gap (k ∷ ks) [] (suc i) f = refl
  value_at-gap (k ∷ ks) (x ∷ xs) (suc i) f = rw f.below.0 (value_at-gap ks xs i (gap_tail key k ks i f))

  pub nothing_in_gap : (ks : List (List ℕ)) (vs : List V) (i : ℕ) → IsGapAt ks key i → IsSome (value_at (zip ks vs) key) → ⊥
  nothing_in_gap ks vs i f stands = false≢true (rw (value_at-gap ks vs i f) at stands)

  pub without_key-gap : (ks : List (List ℕ)) (vs : List V) (i : ℕ) → IsGapAt ks key i → without_key (zip ks vs) key ≡ zip ks vs
  without_key-gap ks vs zero f = without_key-above ks vs f.above
  without_key-gap [] vs (suc i) f = refl
  without_key-gap (k ∷ ks) [] (suc i) f = refl
  without_key-gap (k ∷ ks) (x ∷ xs) (suc i) f = rw (f.below.0, without_key-gap ks xs i (gap_tail key k ks i f)) refl

  pub with_pair-gap : (ks : List (List ℕ)) (vs : List V) (i : ℕ) (w : V) → length ks ≡ length vs → IsGapAt ks key i → with_pair (zip ks vs) key w ≡ zip (insert ks i key) (insert vs i w)
  with_pair-gap [] [] zero w same f = refl
  with_pair-gap [] [] (suc i) w same f = absurd (omega (arith, f.in_range))
  with_pair-gap [] (x ∷ xs) i w same f = absurd (omega (arith, same))
  with_pair-gap (k ∷ ks) [] i w same f = absurd (omega (arith, same))
  with_pair-gap (k ∷ ks) (x ∷ xs) zero w same f = rw f.above.0 refl
  with_pair-gap (k ∷ ks) (x ∷ xs) (suc i) w same f = rw (f.below.0, with_pair-gap ks xs i w (omega (arith, same)) (gap_tail key k ks i f)) refl

-- ---- the order of the keys

all_insert : {X : Type 0} (P : X → Type 0) (xs : List X) (i : ℕ) (y : X) → AllByRecursion P xs → P y → AllByRecursion P (insert xs i y)
all_insert P xs zero y all here = (here, all)
all_insert P [] (suc i) y all here = (here, tt)
all_insert P (x ∷ xs) (suc i) y all here = (all.0, all_insert P xs i y all.1 here)

all_remove : {X : Type 0} (P : X → Type 0) (xs : List X) (i : ℕ) → AllByRecursion P xs → AllByRecursion P (remove xs i)
all_remove P [] zero all = tt
all_remove P [] (suc i) all = tt
all_remove P (x ∷ xs) zero all = all.1
all_remove P (x ∷ xs) (suc i) all = (all.0, all_remove P xs i all.1)

pub in_order-insert : (ks : List (List ℕ)) (i : ℕ) (key : List ℕ) → IsStrictlySortedBy key_cmp ks → IsGapAt ks key i → IsStrictlySortedBy key_cmp (insert ks i key)
unfolding IsStrictlySortedBy
in_order-insert ks zero key s gap = (gap.above, s)
in_order-insert [] (suc i) key s gap = (tt, tt)
in_order-insert (k ∷ ks) (suc i) key s gap = (all_insert _ ks i key s.0 (key_turned key k Greater gap.below.0), in_order-insert ks i key s.1 (gap_tail key k ks i gap))

-- one pair alone is a run
pub pair_run : {V : Type 0} (key : List ℕ) (value : V) → IsRun (key ∷ []) (value ∷ [])
unfolding IsStrictlySortedBy
pair_run key value = record { as_many = refl; at_most = omega arith; in_order = (tt, tt) }

pub in_order-remove : (ks : List (List ℕ)) (i : ℕ) → IsStrictlySortedBy key_cmp ks → IsStrictlySortedBy key_cmp (remove ks i)
unfolding IsStrictlySortedBy
in_order-remove [] zero s = tt
in_order-remove [] (suc i) s = tt
in_order-remove (k ∷ ks) zero s = s.1
in_order-remove (k ∷ ks) (suc i) s = (all_remove _ ks i s.0, in_order-remove ks i s.1)

all_take : {X : Type 0} (P : X → Type 0) (n : ℕ) (xs : List X) → AllByRecursion P xs → AllByRecursion P (take n xs)
all_take P zero xs all = tt
all_take P (suc n) [] all = tt
all_take P (suc n) (x ∷ xs) all = (all.0, all_take P n xs all.1)

pub in_order-take : (n : ℕ) (ks : List (List ℕ)) → IsStrictlySortedBy key_cmp ks → IsStrictlySortedBy key_cmp (take n ks)
unfolding IsStrictlySortedBy
in_order-take zero ks s = tt
in_order-take (suc n) [] s = tt
in_order-take (suc n) (k ∷ ks) s = (all_take _ n ks s.0, in_order-take n ks s.1)

pub in_order-drop : (n : ℕ) (ks : List (List ℕ)) → IsStrictlySortedBy key_cmp ks → IsStrictlySortedBy key_cmp (drop n ks)
unfolding IsStrictlySortedBy
in_order-drop zero ks s = s
in_order-drop (suc n) [] s = tt
in_order-drop (suc n) (k ∷ ks) s = in_order-drop n ks s.1

-- ---- what a binary search ends at

module _ (ks : List (List ℕ)) (sorted : IsStrictlySortedBy key_cmp ks) where
  -- the keys before a place are below its key
  later_above : (i j : ℕ) (d : List ℕ) → i < j → j < length ks → key_cmp (get_or ks j d) (get_or ks i d) ≡ Greater
  later_above i j d lt within = key_turned (get_or ks i d) (get_or ks j d) Less (Less-from_sorted key_cmp ks i j d sorted lt within)

  -- no key is below an earlier one
  never_falls : IsSortedBy (λ a b. is_lt (key_cmp a b)) ks
  never_falls k d low high = ap is_lt (later_above k (k + 1) d (omega arith) high)

  -- what holds at each place before this one holds of the keys before it
  from_places : (P : List ℕ → Type 0) (at : ℕ) → ((j : ℕ) (d : List ℕ) → j < at → P (get_or ks j d)) → AllByRecursion P (take at ks)
  from_places P at each = recursion_from_All P (take at ks) (λ j d lt.
      let small : j < at = omega (arith, length-take at ks, lt) in
      rw (get_or-take at ks j d small) (each j d small))

  -- a search by key ends at the key, or at its gap
  pub searched : (key : List ℕ) (r : Result ℕ ℕ) → IsSearchInRange r (length ks) → IsBinarySearchResult (λ k. key_cmp k key) ks r → record { found : IfOk r (IsFoundAt ks key); absent : IfErr r (IsGapAt ks key) }
  searched key (Ok at) within tied =
      let here : (d : List ℕ) → get_or ks at d ≡ key = λ d. same_keys (get_or ks at d) key (tied d) in
      record {
        found = record {
          in_range = within;
          below = from_places (λ k. key_cmp key k ≡ Greater) at (λ j d lt. subst (λ k. key_cmp k (get_or ks j d) ≡ Greater) (here d) (later_above j at d lt within));
          here = slice_get-get_or ks at key within ∙ ap Some (here key);
        };
        absent = tt;
      }
  searched key (Err at) within parted =
      let parts = parted (searchable_from_sorted nat_list_cmp_total (λ k. k) ks key never_falls) in
      record {
        found = tt;
        absent = record {
          in_range = within;
          below = from_places (λ k. key_cmp key k ≡ Greater) at (λ j d lt. key_turned (get_or ks j d) key Less (parts.0 j d (omega arith) lt));
          above = recursion_from_All _ (drop at ks) (λ j d lt.
              rw (get_or-drop at ks j d) (key_turned (get_or ks (at + j) d) key Greater (parts.1 (at + j) d (omega arith) (omega (arith, length-drop at ks, lt)))));
        };
      }

  -- no key that reaches the bound comes before one that falls short of it
  pub falls_short_before : (from : List ℕ) (strict : Bool) → IsPartitionedBy (λ k. not (reaches from strict k)) ks
  falls_short_before from strict i j d le within short = elim (cases_Bool (reaches from strict (get_or ks i d))) [
    | inl at ↦ elim (cases_eq i j) [
      | inl same ↦ subst (λ k. not (reaches from strict (get_or ks k d)) ≡ true) (sym same) short
      | inr differ ↦ absurd (both_ways _ (not-true _ short) (reaches_past from strict (get_or ks i d) (get_or ks j d) (Less-from_sorted key_cmp ks i j d sorted (omega (arith, le, differ)) within) at))
    ]
    | inr below ↦ ap not below
  ]

  -- a search by the bound ends where the keys that reach it begin
  pub started : (from : List ℕ) (strict : Bool) (at : ℕ) → at ≤ length ks → IsPartitionPoint (λ k. not (reaches from strict k) ≡ true) (λ k. not (reaches from strict k) ≡ false) ks at → IsStartAt ks from strict at
  started from strict at within parts = record {
    in_range = within;
    short = from_places (λ k. reaches from strict k ≡ false) at (λ j d lt. not-true _ (parts.0 j d (omega arith) lt));
    first = elim (slice_get_cases ks at).1 [
      | inl found ↦ rw found.2 (subst (λ k. reaches from strict k ≡ true) found.3 (not-false _ (parts.1 at found.0 (omega arith) found.1)))
      | inr past ↦ rw past.1 tt
    ];
  }

start_tail : (from : List ℕ) (strict : Bool) (k : List ℕ) (ks : List (List ℕ)) (i : ℕ) → IsStartAt (k ∷ ks) from strict (suc i) → IsStartAt ks from strict i
start_tail from strict k ks i s = record { in_range = omega (arith, s.in_range); short = s.short.1; first = s.first }

-- ---- what a read lends

-- the value behind what was lent is the list's at that place
pub lent_item : {R X : Type 0} (now : R → X) (xs : List X) (i : ℕ) (r : Option R) → ItemBy now xs i i r → option_map now r ≡ slice_get xs i
lent_item now xs i None item = sym (slice_get_past xs i item.3)
lent_item now xs i (Some x) item = ap Some (item.3.1 (now x)) ∙ sym (slice_get-get_or xs i (now x) item.3.0)

-- the same with a default
pub read_some : {R X : Type 0} (now : R → X) (xs : List X) (i : ℕ) (d : X) (r : Option R) (x : R) → ItemBy now xs i i r → r ≡ Some x → get_or xs i d ≡ now x
read_some now xs i d r x item is = sym (item.4 (omega arith) d) ∙ ap (λ o. unwrap_or (option_map now o) d) is

pub read_none : {R X : Type 0} (now : R → X) (xs : List X) (i : ℕ) (d : X) (r : Option R) → ItemBy now xs i i r → r ≡ None → get_or xs i d ≡ d
read_none now xs i d r item is = sym (item.4 (omega arith) d) ∙ ap (λ o. unwrap_or (option_map now o) d) is

module _ {V : Type 0} (ks : List (List ℕ)) (vs : List V) (run : IsRun ks vs) where
  -- the keys of the pairs of a run
  pub in_order_pairs : IsInOrder (zip ks vs)
  in_order_pairs = rw (keys_of-zip ks vs (sym run.as_many)) run.in_order

  -- a read of the values at the key's place gives its value
  pub value_at-lent : {R : Type 0} (now : R → V) (key : List ℕ) (i : ℕ) (r : Option R) → IsFoundAt ks key i → ItemBy now vs i i r → option_map now r ≡ value_at (zip ks vs) key
  value_at-lent now key i r found item = elim (slice_get_cases vs i).1 [
    | inl here ↦ lent_item now vs i r item ∙ here.2 ∙ sym (value_at-found key ks vs i here.0 found here.2)
    | inr past ↦ absurd (omega (arith, past.0, found.in_range, run.as_many))
  ]

  -- the same of a read that gave the value itself
  pub value_at-read : (key : List ℕ) (i : ℕ) (v : V) → IsFoundAt ks key i → v ≡ get_or vs i v → value_at (zip ks vs) key ≡ Some v
  value_at-read key i v found read =
      let within : i < length vs = omega (arith, found.in_range, run.as_many) in
      value_at-found key ks vs i v found (slice_get-get_or vs i v within ∙ ap Some (sym read))

  -- what an edit at a place leaves is a run
  pub run_set : (i : ℕ) (w : V) → IsRun ks (slice_set vs i w)
  run_set i w = record { as_many = run.as_many ∙ sym (length-set vs i w); at_most = run.at_most; in_order = run.in_order }

  pub run_insert : (key : List ℕ) (i : ℕ) (w : V) → length ks < 128 → IsGapAt ks key i → IsRun (insert ks i key) (insert vs i w)
  run_insert key i w room gap = record {
    at_most = omega (arith, room, gap.in_range, length-insert ks i key gap.in_range);
    as_many = omega (arith, run.as_many, gap.in_range, length-insert ks i key gap.in_range, length-insert vs i w (omega (arith, run.as_many, gap.in_range)));
    in_order = in_order-insert ks i key run.in_order gap;
  }

  pub run_remove : (i : ℕ) → i < length ks → IsRun (remove ks i) (remove vs i)
  run_remove i within = record {
    at_most = omega (arith, run.at_most, length-remove ks i within);
    as_many = omega (arith, run.as_many, length-remove ks i within, length-remove vs i (omega (arith, run.as_many)));
    in_order = in_order-remove ks i run.in_order;
  }

  -- both halves of a run are runs, and their pairs are its pairs
  pub run_take : (n : ℕ) → IsRun (take n ks) (take n vs)
  run_take n = record {
    as_many = length-take n ks ∙ ap (λ m. min n m) run.as_many ∙ sym (length-take n vs);
    at_most = omega (arith, run.at_most, length-take n ks);
    in_order = in_order-take n ks run.in_order;
  }

  pub run_drop : (n : ℕ) → IsRun (drop n ks) (drop n vs)
  run_drop n = record {
    as_many = omega (arith, run.as_many, length-drop n ks, length-drop n vs);
    at_most = omega (arith, run.at_most, length-drop n ks);
    in_order = in_order-drop n ks run.in_order;
  }

  pub length_run : length (zip ks vs) ≡ length ks
  length_run = omega (arith, length-zip ks vs, run.as_many)

zip-nothing : {V : Type 0} (ks : List (List ℕ)) → zip {X = V} ks [] ≡ []
zip-nothing [] = refl
zip-nothing (k ∷ ks) = refl

-- the pairs of a run are those of its halves
pub zip-halves : {V : Type 0} (n : ℕ) (ks : List (List ℕ)) (vs : List V) → zip ks vs ≡ zip (take n ks) (take n vs) ++ zip (drop n ks) (drop n vs)
zip-halves zero ks vs = refl
zip-halves (suc n) [] vs = refl
zip-halves (suc n) (k ∷ ks) [] = sym (zip-nothing (drop n ks))
zip-halves (suc n) (k ∷ ks) (v ∷ vs) = ap (λ pairs. (k, v) ∷ pairs) (zip-halves n ks vs)

-- ---- the pairs from a bound on

reach_past : (from : List ℕ) (strict : Bool) (k : List ℕ) (ks : List (List ℕ)) → reaches from strict k ≡ true → AllByRecursion (λ l. key_cmp k l ≡ Less) ks → AllByRecursion (λ l. reaches from strict l ≡ true) ks
reach_past from strict k [] at above = tt
reach_past from strict k (l ∷ ks) at above = (reaches_past from strict k l above.0 at, reach_past from strict k ks at above.1)

module _ {V : Type 0} (from : List ℕ) (strict : Bool) where
  -- keys that all reach the bound keep their pairs
  pub all_from : (ks : List (List ℕ)) (vs : List V) → AllByRecursion (λ k. reaches from strict k ≡ true) ks → pairs_from (zip ks vs) from strict ≡ zip ks vs
  all_from [] vs all = refl
  all_from (k ∷ ks) [] all = refl
  all_from (k ∷ ks) (v ∷ vs) all = rw all.0 (ap (λ pairs. (k, v) ∷ pairs) (all_from ks vs all.1))

  -- from the place on where the keys begin that reach the bound
  pub pairs_from-start : (ks : List (List ℕ)) (vs : List V) (i : ℕ) → length ks ≡ length vs → IsStrictlySortedBy key_cmp ks → IsStartAt ks from strict i → zip (drop i ks) (drop i vs) ≡ pairs_from (zip ks vs) from strict
  unfolding IsStrictlySortedBy
  pairs_from-start [] vs zero same sorted s = refl
  pairs_from-start [] vs (suc i) same sorted s = refl
  pairs_from-start (k ∷ ks) [] i same sorted s = absurd (omega (arith, same))
  pairs_from-start (k ∷ ks) (v ∷ vs) zero same sorted s = rw s.first (ap (λ pairs. (k, v) ∷ pairs) (sym (all_from ks vs (reach_past from strict k ks s.first sorted.0))))
  pairs_from-start (k ∷ ks) (v ∷ vs) (suc i) same sorted s = rw s.short.0 (pairs_from-start ks vs i (omega (arith, same)) sorted.1 (start_tail from strict k ks i s))
