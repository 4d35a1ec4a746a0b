-- Pairs in leaves: which leaf a bound's place is in, and what an edit of that leaf makes of all pairs.
use Rattle.std.proofs.Common.{◌≡◌, ℕ, zero, suc, ◌+◌, ◌-◌, ◌<◌, ◌≤◌, Bool, true, false, [], ◌∷◌, ◌++◌, List, length, take, drop, get_or, Option, Some, None, IsSome, IfSome, IfNone, Result, Ok, Err, IfOk, OnErr, IsOk, slice_set, not, refl, sym, ap, ◌∙◌, subst, inl, inr, arith}
use Rattle.std.specs.List.{AllByRecursion, insert, remove}
use Rattle.std.specs.Option.{option_map}
use Rattle.std.specs.List.Sorted.{IsStrictlySortedBy, IsPartitionedBy, IsPartitionPoint}
use Rattle.std.specs.declared.cmp.Ordering.{Ordering}
use Rattle.std.specs.declared.cmp.Ordering.TheVariants.{Less, Equal, Greater}
use Rattle.std.specs.Map.{keys_of}
use Rattle.std.specs.Ordering.{is_lt, is_le}
use Rattle.std.proofs.lemmas.Bool.{cases_Bool, cases_eq, cases_lt, both_ways, not-true, not-false, true≢false}
use Rattle.std.proofs.lemmas.Cmp.{nat_list_cmp_total}
use Rattle.std.proofs.lemmas.List.{append_assoc, map-append, length-take, length-drop, get_or-take, get_or-drop, get_or_default, get_or_past, set-get_or, set_past, nil_from_length}
use Rattle.std.proofs.lemmas.List.Elements.{recursion_from_All, filter-append}
use Rattle.std.proofs.lemmas.Map.Keys.{sorted_head}
use Rattle.ltx_model.specs.Keys.{key_cmp}
use Rattle.ltx_index.specs.Pairs.{IsInOrder, value_at, with_pair, with_value, without_key, first_from, pairs_from}
use Rattle.ltx_model.specs.NextKeys.{reaches}
use Rattle.ltx_index.specs.Places.{AreBelow, AreAbove}
use Rattle.ltx_index.specs.Leaves.{pairs_of, AreLeaves, first_key, IsHome}
use Rattle.ltx_model.proofs.KeyOrder.{key_turned}
use Rattle.ltx_model.proofs.KeyOrder.{reaches_past}
use Rattle.ltx_model.proofs.Orderings.{is_less}
use Rattle.ltx_index.proofs.Joined.{filled-with_pair, all_append, all_right, all_implied, value_at-below, with_pair-below, with_value-below, without_key-below, value_at-above, with_pair-above, with_value-above, without_key-above, AreParted, parted, in_order-with_pair, in_order-without_key}
use Rattle.ltx_index.proofs.Lookups.{in_order-with_value, length-with_value}

one_more : (i : ℕ) → suc i ≡ i + 1
one_more i = omega arith

-- what is not empty has an item
pub some_left : {X : Type 0} (xs : List X) (empty : Bool) → (length xs ≡ 0 → empty ≡ true) → empty ≡ false → 0 < length xs
some_left [] empty says not_empty = absurd (both_ways empty not_empty (says refl))
some_left (x ∷ xs) empty says not_empty = omega arith

-- ---- leaves one by one

module _ {V : Type 0} where
  -- the first leaf and the others
  parted_leaves : (leaf : List (List ℕ × V)) (rest : List (List (List ℕ × V))) → IsInOrder (leaf ++ pairs_of rest) → AreParted (keys_of leaf) (keys_of (pairs_of rest))
  parted_leaves leaf rest sorted = parted (keys_of leaf) (keys_of (pairs_of rest)) (subst (IsStrictlySortedBy key_cmp) (map-append (λ pair. pair.0) leaf (pairs_of rest)) sorted)

  -- what holds of all keys holds of a leaf's first
  first_in_leaf : (P : List ℕ → Type 0) (leaf : List (List ℕ × V)) → 0 < length leaf → AllByRecursion P (keys_of leaf) → P (first_key leaf)
  first_in_leaf P [] filled all = absurd (omega (arith, filled))
  first_in_leaf P (pair ∷ rest) filled all = all.0

  first_in_leaves : (P : List ℕ → Type 0) (leaves : List (List (List ℕ × V))) (j : ℕ) → AllByRecursion (λ leaf. 0 < length leaf) leaves → j < length leaves → AllByRecursion P (keys_of (pairs_of leaves)) → P (first_key (get_or leaves j []))
  first_in_leaves P [] j filled within all = absurd (omega (arith, within))
  first_in_leaves P ([] ∷ rest) zero filled within all = absurd (omega (arith, filled.0))
  first_in_leaves P ((pair ∷ leaf) ∷ rest) zero filled within all = all.0
  first_in_leaves P (leaf ∷ rest) (suc j) filled within all = first_in_leaves P rest j filled.1 (omega (arith, within)) (all_right P (keys_of leaf) (keys_of (pairs_of rest)) (subst (AllByRecursion P) (map-append (λ pair. pair.0) leaf (pairs_of rest)) all))

  -- the keys of a leaf are below the first key of each later one
  across : (leaves : List (List (List ℕ × V))) (i j : ℕ) → AllByRecursion (λ leaf. 0 < length leaf) leaves → IsInOrder (pairs_of leaves) → i < j → j < length leaves → AllByRecursion (λ k. key_cmp k (first_key (get_or leaves j [])) ≡ Less) (keys_of (get_or leaves i []))
  across [] i j filled sorted lt within = absurd (omega (arith, within))
  across (leaf ∷ rest) i zero filled sorted lt within = absurd (omega (arith, lt))
  across (leaf ∷ rest) zero (suc j) filled sorted lt within =
      all_implied _ _ (λ k above. first_in_leaves (λ y. key_cmp k y ≡ Less) rest j filled.1 (omega (arith, within)) above) (keys_of leaf) (parted_leaves leaf rest sorted).across
  across (leaf ∷ rest) (suc i) (suc j) filled sorted lt within = across rest i j filled.1 (parted_leaves leaf rest sorted).right (omega (arith, lt)) (omega (arith, within))

  -- a leaf is in order, and not empty
  leaf_in_order : (leaves : List (List (List ℕ × V))) (i : ℕ) → IsInOrder (pairs_of leaves) → i < length leaves → IsInOrder (get_or leaves i [])
  leaf_in_order [] i sorted within = absurd (omega (arith, within))
  leaf_in_order (leaf ∷ rest) zero sorted within = (parted_leaves leaf rest sorted).left
  leaf_in_order (leaf ∷ rest) (suc i) sorted within = leaf_in_order rest i (parted_leaves leaf rest sorted).right (omega (arith, within))

  leaf_filled : (leaves : List (List (List ℕ × V))) (i : ℕ) → AllByRecursion (λ leaf. 0 < length leaf) leaves → i < length leaves → 0 < length (get_or leaves i [])
  leaf_filled [] i filled within = absurd (omega (arith, within))
  leaf_filled (leaf ∷ rest) zero filled within = filled.0
  leaf_filled (leaf ∷ rest) (suc i) filled within = leaf_filled rest i filled.1 (omega (arith, within))

-- ---- the leaf of a bound's place

-- what is below a key that falls short of the bound is below the bound
below_short : (from : List ℕ) (strict : Bool) (k f : List ℕ) → key_cmp k f ≡ Less → reaches from strict f ≡ false → key_cmp from k ≡ Greater
below_short from strict k f below short = by_order (key_cmp from f) refl
  where
    by_order : (o : Ordering) → key_cmp from f ≡ o → key_cmp from k ≡ Greater
    by_order Less o = absurd (both_ways _ short (reached strict o))
      where
        reached : (strict : Bool) → key_cmp from f ≡ Less → reaches from strict f ≡ true
        reached true o = ap is_lt o
        reached false o = ap is_le o
    by_order Equal o = nat_list_cmp_total.congr from f k o ∙ key_turned k f Less below
    by_order Greater o = key_turned k from Less (nat_list_cmp_total.trans k f from below (key_turned from f Greater o))

module _ {V : Type 0} (from : List ℕ) (strict : Bool) where
  -- a leaf whose first key reaches the bound reaches it as a whole
  all_reach : (leaf : List (List ℕ × V)) → IsInOrder leaf → reaches from strict (first_key leaf) ≡ true → AllByRecursion (λ k. reaches from strict k ≡ true) (keys_of leaf)
  all_reach [] sorted at = tt
  all_reach ((k, x) ∷ rest) sorted at = (at, all_implied (λ y. key_cmp k y ≡ Less) _ (λ y above. reaches_past from strict k y above at) (keys_of rest) (sorted_head key_cmp k (keys_of rest) sorted))

  module _ (leaves : List (List (List ℕ × V))) (are : AreLeaves leaves) where
    -- no leaf that begins short of the bound comes after one that reaches it
    pub begin_short_before : IsPartitionedBy (λ leaf. not (reaches from strict (first_key leaf))) leaves
    begin_short_before i j d le within short =
        let begins = λ (n : ℕ). first_key (get_or leaves n d) in
        elim (cases_Bool (reaches from strict (begins i))) [
          | inl at ↦ elim (cases_eq i j) [
            | inl same ↦ subst (λ n. not (reaches from strict (begins n)) ≡ true) (sym same) short
            | inr differ ↦ absurd (both_ways _ (not-true _ short) (reaches_past from strict (begins i) (begins j) (rising i j d (omega (arith, le, differ)) within) at))
          ]
          | inr below ↦ ap not below
        ]
      where
        rising : (i j : ℕ) (d : List (List ℕ × V)) → i < j → j < length leaves → key_cmp (first_key (get_or leaves i d)) (first_key (get_or leaves j d)) ≡ Less
        rising i j d lt within = rw (get_or_default leaves i d [] (omega (arith, lt, within)), get_or_default leaves j d [] within) (first_in_leaf (λ k. key_cmp k (first_key (get_or leaves j [])) ≡ Less) (get_or leaves i []) (leaf_filled leaves i are.filled (omega (arith, lt, within))) (across leaves i j are.filled are.in_order lt within))

    -- the leaf before the first that begins at the bound or past it holds the bound's place
    pub home_found : (p : ℕ) → p ≤ length leaves → IsPartitionPoint (λ leaf. not (reaches from strict (first_key leaf)) ≡ true) (λ leaf. not (reaches from strict (first_key leaf)) ≡ false) leaves p → IsHome leaves from strict (p - 1)
    home_found p within parts = record {
      before = recursion_from_All _ (take (p - 1) leaves) (λ j d lt.
          let small : j < p - 1 = omega (arith, length-take (p - 1) leaves, lt) in
          let last : p - 1 < length leaves = omega (arith, small, within) in
          rw (get_or-take (p - 1) leaves j d small, get_or_default leaves j d [] (omega (arith, small, last))) (
          all_implied _ _ (λ k below. below_short from strict k (first_key (get_or leaves (p - 1) [])) below (not-true _ (parts.0 (p - 1) [] (omega arith) (omega (arith, small))))) (keys_of (get_or leaves j [])) (across leaves j (p - 1) are.filled are.in_order small last)
          ));
      after = recursion_from_All _ (drop (suc (p - 1)) leaves) (λ j d lt.
          let n = suc (p - 1) + j in
          let inside : n < length leaves = omega (arith, length-drop (suc (p - 1)) leaves, lt) in
          rw (get_or-drop (suc (p - 1)) leaves j d, get_or_default leaves n d [] inside) (
          all_reach (get_or leaves n []) (leaf_in_order leaves n are.in_order inside) (not-false _ (parts.1 n [] (omega arith) inside))
          ));
    }

-- ---- look-ups and edits in the leaf

module _ {V : Type 0} (from : List ℕ) (strict : Bool) where
  home_tail : (leaf : List (List ℕ × V)) (rest : List (List (List ℕ × V))) (i : ℕ) → IsHome (leaf ∷ rest) from strict (suc i) → IsHome rest from strict i
  home_tail leaf rest i home = record { before = home.before.1; after = home.after }

  -- what holds of the keys of each leaf holds of all keys
  all_leaves : (P : List ℕ → Type 0) (leaves : List (List (List ℕ × V))) → AllByRecursion (λ leaf. AllByRecursion P (keys_of leaf)) leaves → AllByRecursion P (keys_of (pairs_of leaves))
  all_leaves P [] all = tt
  all_leaves P (leaf ∷ rest) all = subst (AllByRecursion P) (sym (map-append (λ pair. pair.0) leaf (pairs_of rest))) (all_append P (keys_of leaf) (keys_of (pairs_of rest)) all.0 (all_leaves P rest all.1))

  -- all of a leaf below the bound fall short of it
  none_from_below : (leaf : List (List ℕ × V)) → AreBelow from (keys_of leaf) → pairs_from leaf from strict ≡ []
  none_from_below [] below = refl
  none_from_below ((k, x) ∷ rest) below = rw (short strict) (none_from_below rest below.1)
    where
      short : (strict : Bool) → reaches from strict k ≡ false
      short true = ap is_lt below.0
      short false = ap is_le below.0

  -- leaves that all reach the bound are kept
  all_from_reaching : (pairs : List (List ℕ × V)) → AllByRecursion (λ k. reaches from strict k ≡ true) (keys_of pairs) → pairs_from pairs from strict ≡ pairs
  all_from_reaching [] all = refl
  all_from_reaching ((k, x) ∷ rest) all = rw all.0 (ap (λ pairs. (k, x) ∷ pairs) (all_from_reaching rest all.1))

  pairs_from-append : (xs ys : List (List ℕ × V)) → pairs_from (xs ++ ys) from strict ≡ pairs_from xs from strict ++ pairs_from ys from strict
  pairs_from-append xs ys = filter-append (λ pair. reaches from strict pair.0) xs ys

  -- the pairs from the bound on are the leaf's, and all of later leaves
  pub pairs_from-home : (leaves : List (List (List ℕ × V))) (i : ℕ) (leaf : List (List ℕ × V)) (later : List (List (List ℕ × V))) → IsHome leaves from strict i → drop i leaves ≡ leaf ∷ later → pairs_from (pairs_of leaves) from strict ≡ pairs_from leaf from strict ++ pairs_of later
  pairs_from-home [] zero leaf later home is = cc
  pairs_from-home [] (suc i) leaf later home is = cc
  pairs_from-home (x ∷ rest) zero leaf later home is =
      let here : x ≡ leaf = cc in
      let others : rest ≡ later = cc in
      pairs_from-append x (pairs_of rest)
      ∙ ap (λ pairs. pairs_from x from strict ++ pairs) (all_from_reaching (pairs_of rest) (all_leaves (λ k. reaches from strict k ≡ true) rest home.after))
      ∙ ap (λ l. pairs_from l from strict ++ pairs_of rest) here ∙ ap (λ ls. pairs_from leaf from strict ++ pairs_of ls) others
  pairs_from-home (x ∷ rest) (suc i) leaf later home is =
      pairs_from-append x (pairs_of rest) ∙ ap (λ pairs. pairs ++ pairs_from (pairs_of rest) from strict) (none_from_below x home.before.0)
      ∙ pairs_from-home rest i leaf later (home_tail x rest i home) is

  -- past all leaves there are none
  pub pairs_from-nowhere : (leaves : List (List (List ℕ × V))) (i : ℕ) → IsHome leaves from strict i → drop i leaves ≡ [] → pairs_from (pairs_of leaves) from strict ≡ []
  pairs_from-nowhere [] i home is = refl
  pairs_from-nowhere (x ∷ rest) zero home is = cc
  pairs_from-nowhere (x ∷ rest) (suc i) home is =
      pairs_from-append x (pairs_of rest) ∙ ap (λ pairs. pairs ++ pairs_from (pairs_of rest) from strict) (none_from_below x home.before.0)
      ∙ pairs_from-nowhere rest i (home_tail x rest i home) is

-- the first pair from the bound on is the first one of those
pub first_from-head : {V : Type 0} (from : List ℕ) (strict : Bool) (pairs : List (List ℕ × V)) (pair : List ℕ × V) (rest : List (List ℕ × V)) → pairs_from pairs from strict ≡ pair ∷ rest → first_from pairs from strict ≡ Some pair
first_from-head from strict [] pair rest is = cc
first_from-head from strict ((k, x) ∷ pairs) pair rest is = elim (cases_Bool (reaches from strict k)) [
  | inl at ↦ rw at (let same : (k, x) ∷ pairs_from pairs from strict ≡ pair ∷ rest = rw at at is in cc)
  | inr short ↦ rw short (first_from-head from strict pairs pair rest (rw short at is))
]

pub first_from-none : {V : Type 0} (from : List ℕ) (strict : Bool) (pairs : List (List ℕ × V)) → pairs_from pairs from strict ≡ [] → first_from pairs from strict ≡ None
first_from-none from strict [] is = refl
first_from-none from strict ((k, x) ∷ pairs) is = elim (cases_Bool (reaches from strict k)) [
  | inl at ↦ rw at (let same : (k, x) ∷ pairs_from pairs from strict ≡ [] = rw at at is in cc)
  | inr short ↦ rw short (first_from-none from strict pairs (rw short at is))
]

-- what a walk gives first
pub first_from-given : {V R : Type 0} (from : List ℕ) (strict : Bool) (pairs walk : List (List ℕ × V)) (now : R → List ℕ × V) (rest : List (List ℕ × V)) (given : Option R) → walk ≡ pairs_from pairs from strict → IfSome given (λ pair. walk ≡ now pair ∷ rest) → IfNone given (walk ≡ []) → option_map now given ≡ first_from pairs from strict
first_from-given from strict pairs walk now rest None is some none = sym (first_from-none from strict pairs (sym is ∙ none))
first_from-given from strict pairs walk now rest (Some pair) is some none = sym (first_from-head from strict pairs (now pair) rest (sym is ∙ some))

module _ {V : Type 0} (key : List ℕ) where
  -- later leaves are above the key
  above : (rest : List (List (List ℕ × V))) → AllByRecursion (λ leaf. AllByRecursion (λ k. reaches key true k ≡ true) (keys_of leaf)) rest → AreAbove key (keys_of (pairs_of rest))
  above rest all = all_implied _ _ (λ k at. is_less (key_cmp key k) at) (keys_of (pairs_of rest)) (all_leaves key true (λ k. reaches key true k ≡ true) rest all)

  pub value_at-home : (leaves : List (List (List ℕ × V))) (i : ℕ) → IsHome leaves key true i → value_at (pairs_of leaves) key ≡ value_at (get_or leaves i []) key
  value_at-home [] i home = refl
  value_at-home (leaf ∷ rest) zero home = value_at-above key (pairs_of rest) (above rest home.after) leaf
  value_at-home (leaf ∷ rest) (suc i) home = value_at-below key (pairs_of rest) leaf home.before.0 ∙ value_at-home rest i (home_tail key true leaf rest i home)

  pub with_value-home : (value : V) (leaves : List (List (List ℕ × V))) (i : ℕ) → IsHome leaves key true i → with_value (pairs_of leaves) key value ≡ pairs_of (slice_set leaves i (with_value (get_or leaves i []) key value))
  with_value-home value [] i home = refl
  with_value-home value (leaf ∷ rest) zero home = with_value-above key (pairs_of rest) (above rest home.after) value leaf
  with_value-home value (leaf ∷ rest) (suc i) home = with_value-below key (pairs_of rest) value leaf home.before.0 ∙ ap (λ pairs. leaf ++ pairs) (with_value-home value rest i (home_tail key true leaf rest i home))

  pub without_key-home : (leaves : List (List (List ℕ × V))) (i : ℕ) → IsHome leaves key true i → without_key (pairs_of leaves) key ≡ pairs_of (slice_set leaves i (without_key (get_or leaves i []) key))
  without_key-home [] i home = refl
  without_key-home (leaf ∷ rest) zero home = without_key-above key (pairs_of rest) (above rest home.after) leaf
  without_key-home (leaf ∷ rest) (suc i) home = without_key-below key (pairs_of rest) leaf home.before.0 ∙ ap (λ pairs. leaf ++ pairs) (without_key-home rest i (home_tail key true leaf rest i home))

  pub with_pair-home : (value : V) (leaves : List (List (List ℕ × V))) (i : ℕ) → i < length leaves → IsHome leaves key true i → with_pair (pairs_of leaves) key value ≡ pairs_of (slice_set leaves i (with_pair (get_or leaves i []) key value))
  with_pair-home value [] i within home = absurd (omega (arith, within))
  with_pair-home value (leaf ∷ rest) zero within home = with_pair-above key (pairs_of rest) (above rest home.after) value leaf
  with_pair-home value (leaf ∷ rest) (suc i) within home = with_pair-below key (pairs_of rest) value leaf home.before.0 ∙ ap (λ pairs. leaf ++ pairs) (with_pair-home value rest i (omega (arith, within)) (home_tail key true leaf rest i home))

  -- past all leaves the key goes into a leaf of its own
  pub with_pair-past : (value : V) (leaves : List (List (List ℕ × V))) (i : ℕ) → length leaves ≤ i → IsHome leaves key true i → with_pair (pairs_of leaves) key value ≡ pairs_of (leaves ++ ((key, value) ∷ []) ∷ [])
  with_pair-past value [] i past home = refl
  with_pair-past value (leaf ∷ rest) zero past home = absurd (omega (arith, past))
  with_pair-past value (leaf ∷ rest) (suc i) past home = with_pair-below key (pairs_of rest) value leaf home.before.0 ∙ ap (λ pairs. leaf ++ pairs) (with_pair-past value rest i (omega (arith, past)) (home_tail key true leaf rest i home))

-- ---- what an edit of a leaf leaves

module _ {V : Type 0} where
  pub all-set : (P : List (List ℕ × V) → Type 0) (leaves : List (List (List ℕ × V))) (i : ℕ) (leaf : List (List ℕ × V)) → AllByRecursion P leaves → P leaf → AllByRecursion P (slice_set leaves i leaf)
  all-set P [] i leaf all here = tt
  all-set P (x ∷ rest) zero leaf all here = (here, all.1)
  all-set P (x ∷ rest) (suc i) leaf all here = (all.0, all-set P rest i leaf all.1 here)

  -- a leaf that is emptied may go
  pub pairs-removed : (leaves : List (List (List ℕ × V))) (i : ℕ) → i < length leaves → pairs_of (remove (slice_set leaves i []) i) ≡ pairs_of (slice_set leaves i [])
  pairs-removed [] i within = absurd (omega (arith, within))
  pairs-removed (leaf ∷ rest) zero within = refl
  pairs-removed (leaf ∷ rest) (suc i) within = ap (λ pairs. leaf ++ pairs) (pairs-removed rest i (omega (arith, within)))

  pub filled-removed : (leaves : List (List (List ℕ × V))) (i : ℕ) (leaf : List (List ℕ × V)) → AllByRecursion (λ leaf. 0 < length leaf) leaves → AllByRecursion (λ leaf. 0 < length leaf) (remove (slice_set leaves i leaf) i)
  filled-removed [] zero leaf filled = tt
  filled-removed [] (suc i) leaf filled = tt
  filled-removed (x ∷ rest) zero leaf filled = filled.1
  filled-removed (x ∷ rest) (suc i) leaf filled = (filled.0, filled-removed rest i leaf filled.1)

  pairs-split : (leaves : List (List (List ℕ × V))) (i : ℕ) (lower upper : List (List ℕ × V)) → i < length leaves → get_or leaves i [] ≡ lower ++ upper → pairs_of (insert (slice_set leaves i lower) (suc i) upper) ≡ pairs_of leaves
  pairs-split [] i lower upper within halves = absurd (omega (arith, within))
  pairs-split (leaf ∷ rest) zero lower upper within halves = sym (append_assoc lower upper (pairs_of rest)) ∙ ap (λ pairs. pairs ++ pairs_of rest) (sym halves)
  pairs-split (leaf ∷ rest) (suc i) lower upper within halves = ap (λ pairs. leaf ++ pairs) (pairs-split rest i lower upper (omega (arith, within)) halves)

  filled-split : (leaves : List (List (List ℕ × V))) (i : ℕ) (lower upper : List (List ℕ × V)) → AllByRecursion (λ leaf. 0 < length leaf) leaves → 0 < length lower → 0 < length upper → AllByRecursion (λ leaf. 0 < length leaf) (insert (slice_set leaves i lower) (suc i) upper)
  filled-split [] i lower upper filled left right = (right, tt)
  filled-split (leaf ∷ rest) zero lower upper filled left right = (left, (right, filled.1))
  filled-split (leaf ∷ rest) (suc i) lower upper filled left right = (filled.0, filled-split rest i lower upper filled.1 left right)

-- no leaves
pub no_leaves : {V : Type 0} → AreLeaves {V = V} []
unfolding IsStrictlySortedBy
no_leaves = record { filled = tt; in_order = tt }

-- these leaves, or new ones, are what a put with this answer leaves
pub record IsPut {V E : Type 0} (leaves : List (List (List ℕ × V))) (key : List ℕ) (value : V) (result : Result (Option V) E) (new : List (List (List ℕ × V))) : Type 0 where
  pub are : AreLeaves new
  pub old : IfOk result (λ before. before ≡ value_at (pairs_of leaves) key)
  pub put : IfOk result (λ _. pairs_of new ≡ with_pair (pairs_of leaves) key value)
  pub kept : OnErr result (pairs_of new ≡ pairs_of leaves)
  pub overwrites : IsSome (value_at (pairs_of leaves) key) → IsOk result

module _ {V : Type 0} (leaves : List (List (List ℕ × V))) (are : AreLeaves leaves) where
  -- a leaf that is read and written back
  pub leaves_same : (i : ℕ) → AreLeaves (slice_set leaves i (get_or leaves i []))
  leaves_same i = subst AreLeaves (sym (set-get_or leaves i [])) are

  -- a leaf in two halves
  pub pairs_split : (i : ℕ) (lower upper : List (List ℕ × V)) → i < length leaves → get_or leaves i [] ≡ lower ++ upper → pairs_of (insert (slice_set leaves i lower) (i + 1) upper) ≡ pairs_of leaves
  pairs_split i lower upper within halves = subst (λ n. pairs_of (insert (slice_set leaves i lower) n upper) ≡ pairs_of leaves) (one_more i) (pairs-split leaves i lower upper within halves)

  pub leaves_split : (i : ℕ) (lower upper : List (List ℕ × V)) → i < length leaves → get_or leaves i [] ≡ lower ++ upper → 0 < length lower → 0 < length upper → AreLeaves (insert (slice_set leaves i lower) (i + 1) upper)
  leaves_split i lower upper within halves left right = record {
    filled = subst (λ n. AllByRecursion (λ leaf. 0 < length leaf) (insert (slice_set leaves i lower) n upper)) (one_more i) (filled-split leaves i lower upper are.filled left right);
    in_order = subst IsInOrder (sym (pairs_split i lower upper within halves)) are.in_order;
  }

  module _ (key : List ℕ) (i : ℕ) (home : IsHome leaves key true i) where
    -- where a value is changed
    pub leaves-with_value : (value : V) → AreLeaves (slice_set leaves i (with_value (get_or leaves i []) key value))
    leaves-with_value value = record {
      filled = elim (cases_lt i (length leaves)) [
        | inl within ↦ all-set _ leaves i _ are.filled (omega (arith, leaf_filled leaves i are.filled within, length-with_value (get_or leaves i []) key value))
        | inr past ↦ subst (AllByRecursion (λ leaf. 0 < length leaf)) (sym (set_past leaves i _ past)) are.filled
      ];
      in_order = subst IsInOrder (with_value-home key value leaves i home) (in_order-with_value (pairs_of leaves) key value are.in_order);
    }

    -- where a pair is put into the key's leaf
    pub leaves-with_pair : (value : V) → i < length leaves → AreLeaves (slice_set leaves i (with_pair (get_or leaves i []) key value))
    leaves-with_pair value within = record {
      filled = all-set _ leaves i _ are.filled (filled-with_pair key value (get_or leaves i []));
      in_order = subst IsInOrder (with_pair-home key value leaves i within home) (in_order-with_pair key value (pairs_of leaves) are.in_order);
    }

    -- where it is put into a leaf of its own
    pub leaves-past : (value : V) → length leaves ≤ i → AreLeaves (leaves ++ ((key, value) ∷ []) ∷ [])
    leaves-past value past = record {
      filled = all_append _ leaves (((key, value) ∷ []) ∷ []) are.filled (omega arith, tt);
      in_order = subst IsInOrder (with_pair-past key value leaves i past home) (in_order-with_pair key value (pairs_of leaves) are.in_order);
    }

    -- what a removal from the key's leaf makes of all pairs
    pub taken : (leaf new : List (List ℕ × V)) → get_or leaves i [] ≡ leaf → new ≡ without_key leaf key → pairs_of (slice_set leaves i new) ≡ without_key (pairs_of leaves) key
    taken leaf new here out = ap (λ (l : List (List ℕ × V)). pairs_of (slice_set leaves i l)) (out ∙ ap (λ (l : List (List ℕ × V)). without_key l key) (sym here)) ∙ sym (without_key-home key leaves i home)

    pub in_order-now : (new : List (List (List ℕ × V))) → pairs_of new ≡ without_key (pairs_of leaves) key → IsInOrder (pairs_of new)
    in_order-now new out = subst IsInOrder (sym out) (in_order-without_key key (pairs_of leaves) are.in_order)

    pub leaves_taken : (leaf new : List (List ℕ × V)) → get_or leaves i [] ≡ leaf → new ≡ without_key leaf key → 0 < length new → AreLeaves (slice_set leaves i new)
    leaves_taken leaf new here out some = record {
      filled = all-set _ leaves i new are.filled some;
      in_order = in_order-now (slice_set leaves i new) (taken leaf new here out);
    }

    -- and the leaf goes with its last pair
    pub taken_last : (leaf new : List (List ℕ × V)) → i < length leaves → get_or leaves i [] ≡ leaf → new ≡ without_key leaf key → length new ≡ 0 → pairs_of (remove (slice_set leaves i new) i) ≡ without_key (pairs_of leaves) key
    taken_last leaf new within here out none =
        ap (λ (l : List (List ℕ × V)). pairs_of (remove (slice_set leaves i l) i)) (nil_from_length new none)
        ∙ pairs-removed leaves i within
        ∙ ap (λ (l : List (List ℕ × V)). pairs_of (slice_set leaves i l)) (sym (nil_from_length new none))
        ∙ taken leaf new here out

    pub leaves_taken_last : (leaf new : List (List ℕ × V)) → i < length leaves → get_or leaves i [] ≡ leaf → new ≡ without_key leaf key → length new ≡ 0 → AreLeaves (remove (slice_set leaves i new) i)
    leaves_taken_last leaf new within here out none = record {
      filled = filled-removed leaves i new are.filled;
      in_order = in_order-now (remove (slice_set leaves i new) i) (taken_last leaf new within here out none);
    }

    -- where there is no leaf, nothing is taken
    pub taken_nowhere : get_or leaves i [] ≡ [] → pairs_of leaves ≡ without_key (pairs_of leaves) key
    taken_nowhere none = ap pairs_of (sym (set-get_or leaves i [])) ∙ ap (λ (l : List (List ℕ × V)). pairs_of (slice_set leaves i l)) none ∙ taken [] [] none refl

    -- what a put into the key's leaf makes of all pairs, whatever it answers
    pub put_into : {E : Type 0} (result : Result (Option V) E) (value : V) (leaf new : List (List ℕ × V)) → i < length leaves → get_or leaves i [] ≡ leaf → IfOk result (λ before. before ≡ value_at leaf key) → IfOk result (λ _. new ≡ with_pair leaf key value) → OnErr result (new ≡ leaf) → (IsSome (value_at leaf key) → IsOk result) → IsPut leaves key value result (slice_set leaves i new)
    put_into (Ok before) value leaf new within here old put kept overwrites =
        let puts = subst (λ (l : List (List ℕ × V)). new ≡ with_pair l key value) (sym here) put in
        record {
          are = subst (λ (l : List (List ℕ × V)). AreLeaves (slice_set leaves i l)) (sym puts) (leaves-with_pair value within);
          old = old ∙ ap (λ (l : List (List ℕ × V)). value_at l key) (sym here) ∙ sym (value_at-home key leaves i home);
          put = ap (λ (l : List (List ℕ × V)). pairs_of (slice_set leaves i l)) puts ∙ sym (with_pair-home key value leaves i within home);
          kept = tt;
          overwrites = λ _. refl;
        }
    put_into (Err back) value leaf new within here old put kept overwrites =
        let same : slice_set leaves i new ≡ leaves = ap (slice_set leaves i) (kept ∙ sym here) ∙ set-get_or leaves i [] in
        record {
          are = subst AreLeaves (sym same) are;
          old = tt;
          put = tt;
          kept = ap pairs_of same;
          overwrites = λ stands. overwrites (subst (λ (l : List (List ℕ × V)). IsSome (value_at l key)) here (subst IsSome (value_at-home key leaves i home) stands));
        }

    -- and a put into a leaf of its own
    pub put_past : {E : Type 0} (result : Result (Option V) E) (value : V) (new : List (List (List ℕ × V))) → length leaves ≤ i → IfOk result (λ before. (before ≡ None) × (new ≡ leaves ++ ((key, value) ∷ []) ∷ [])) → OnErr result (new ≡ leaves) → IsPut leaves key value result new
    put_past (Ok before) value new past pushed kept = record {
      are = subst AreLeaves (sym pushed.1) (leaves-past value past);
      old = pushed.0 ∙ sym nothing_past;
      put = ap pairs_of pushed.1 ∙ sym (with_pair-past key value leaves i past home);
      kept = tt;
      overwrites = λ _. refl;
    }
      where
        nothing_past : value_at (pairs_of leaves) key ≡ None
        nothing_past = value_at-home key leaves i home ∙ ap (λ (l : List (List ℕ × V)). value_at l key) (get_or_past leaves i [] past)
    put_past (Err back) value new past pushed kept = record {
      are = subst AreLeaves (sym kept) are;
      old = tt;
      put = tt;
      kept = ap pairs_of kept;
      overwrites = λ stands. absurd (true≢false (sym (subst IsSome (value_at-home key leaves i home ∙ ap (λ (l : List (List ℕ × V)). value_at l key) (get_or_past leaves i [] past)) stands)));
    }
