-- What a look-up finds after an edit, and what the first pair from a bound on is, for whoever keeps something by key.
use Rattle.std.proofs.Common.{◌≡◌, ℕ, length, Bool, true, false, [], ◌∷◌, List, Some, None, IsSome, if◌then◌else◌, refl, sym, ap, ◌∙◌, subst, inl, inr}
use Rattle.std.specs.List.{AllByRecursion}
use Rattle.std.specs.List.Sorted.{IsStrictlySortedBy}
use Rattle.std.specs.declared.cmp.Ordering.{Ordering}
use Rattle.std.specs.declared.cmp.Ordering.TheVariants.{Less, Equal, Greater}
use Rattle.std.specs.Map.{keys_of}
use Rattle.std.specs.Ordering.{is_eq, is_le, match_ordering}
use Rattle.std.proofs.lemmas.Bool.{cases_Bool, false≢true, both_ways}
use Rattle.std.proofs.lemmas.Cmp.{nat_list_cmp_total, tied_itself, eq_by_cmp_equiv}
use Rattle.std.proofs.lemmas.Map.{lookup-remove_entry, lookup-set_value}
use Rattle.std.proofs.lemmas.Map.Entries.{length-keys_of}
use Rattle.std.proofs.lemmas.Map.Keys.{IsDistinct-from_sorted, sorted_head, sorted_tail}
use Rattle.std.proofs.lemmas.Map.Lookups.{exact_bytes}
use Rattle.std.proofs.lemmas.Map.Views.{tells_apart}
use Rattle.std.proofs.lemmas.Option.{none-some, some_pair_parts}
use Rattle.ltx_model.specs.Keys.{key_cmp}
use Rattle.ltx_index.specs.Pairs.{IsInOrder, value_at, with_pair, with_value, without_key, first_from, pairs_from}
use Rattle.ltx_model.specs.NextKeys.{reaches}
use Rattle.ltx_model.proofs.KeyOrder.{same_keys}

-- whether two keys are the same
abbrev pub are_same : List ℕ → List ℕ → Bool
are_same a b = is_eq (key_cmp a b)

are_same-flip : (a b : List ℕ) → are_same a b ≡ are_same b a
are_same-flip a b = (eq_by_cmp_equiv nat_list_cmp_total).symm a b

pub from_are_same : (a b : List ℕ) → are_same a b ≡ true → a ≡ b
from_are_same a b same = tells_apart exact_bytes a b same

are_same_through : (a b c : List ℕ) → are_same a b ≡ true → are_same b c ≡ true → are_same a c ≡ true
are_same_through a b c first second = (eq_by_cmp_equiv nat_list_cmp_total).congr a b c first ∙ second

module _ {V : Type 0} (key : List ℕ) (value : V) (q : List ℕ) where
  -- the first pair's key stands before the new one's place, at it or after it
  put_step : (k : List ℕ) (x : V) (rest put : List (List ℕ × V)) → value_at put q ≡ (if are_same key q then Some value else value_at rest q) → (o : Ordering) → key_cmp key k ≡ o → value_at (match_ordering o ((key, value) ∷ (k, x) ∷ rest) ((k, value) ∷ rest) ((k, x) ∷ put)) q ≡ (if are_same key q then Some value else value_at ((k, x) ∷ rest) q)
  put_step k x rest put in_rest Less o = rw (are_same-flip key q) refl
  put_step k x rest put in_rest Equal o = rw (same_keys key k o, are_same-flip k q) (elim (cases_Bool (are_same q k)) [
    | inl same ↦ rw same refl
    | inr differ ↦ rw differ refl
  ])
  put_step k x rest put in_rest Greater o = elim (cases_Bool (are_same q k)) [
    | inl same ↦ elim (cases_Bool (are_same key q)) [
      | inl this ↦ absurd (both_ways (are_same key k) (ap is_eq o) (are_same_through key q k this same))
      | inr other ↦ rw (same, other) refl
    ]
    | inr differ ↦ rw differ in_rest
  ]

  -- at this key what was put, and at each other one what was there
  pub value_at-with_pair : (pairs : List (List ℕ × V)) → value_at (with_pair pairs key value) q ≡ (if are_same key q then Some value else value_at pairs q)
  value_at-with_pair [] = rw (are_same-flip key q) refl
  value_at-with_pair ((k, x) ∷ rest) = put_step k x rest (with_pair rest key value) (value_at-with_pair rest) (key_cmp key k) refl

module _ {V : Type 0} (pairs : List (List ℕ × V)) (key q : List ℕ) where
  -- nothing at this key, and at each other one what was there
  pub value_at-without_key : IsInOrder pairs → value_at (without_key pairs key) q ≡ (if are_same key q then None else value_at pairs q)
  value_at-without_key in_order = lookup-remove_entry (eq_by_cmp_equiv nat_list_cmp_total) (are_same key) (λ a b. (eq_by_cmp_equiv nat_list_cmp_total).congr key a b) q pairs (IsDistinct-from_sorted key_cmp (keys_of pairs) in_order)

  -- where a value stands at this key, the new one, and at each other key what was there
  pub value_at-with_value : (value : V) → IsSome (value_at pairs key) → value_at (with_value pairs key value) q ≡ (if are_same key q then Some value else value_at pairs q)
  value_at-with_value value stands = lookup-set_value (eq_by_cmp_equiv nat_list_cmp_total) (are_same key) (λ a b. (eq_by_cmp_equiv nat_list_cmp_total).congr key a b) q value pairs stands

-- a change of a value changes no key
pub keys-with_value : {V : Type 0} (pairs : List (List ℕ × V)) (key : List ℕ) (value : V) → keys_of (with_value pairs key value) ≡ keys_of pairs
keys-with_value [] key value = refl
keys-with_value ((k, x) ∷ rest) key value = elim (cases_Bool (are_same key k)) [
  | inl same ↦ rw same refl
  | inr differ ↦ rw (differ, keys-with_value rest key value) refl
]

-- and keeps their order
pub in_order-with_value : {V : Type 0} (pairs : List (List ℕ × V)) (key : List ℕ) (value : V) → IsInOrder pairs → IsInOrder (with_value pairs key value)
in_order-with_value pairs key value in_order = subst (IsStrictlySortedBy key_cmp) (sym (keys-with_value pairs key value)) in_order

pub length-with_value : {V : Type 0} (pairs : List (List ℕ × V)) (key : List ℕ) (value : V) → length (with_value pairs key value) ≡ length pairs
length-with_value pairs key value = sym (length-keys_of (with_value pairs key value)) ∙ ap length (keys-with_value pairs key value) ∙ length-keys_of pairs

-- ---- the first pair from a bound on

-- what holds of all keys holds of one at which a value stands
pub all_stands : {V : Type 0} (P : List ℕ → Type 0) (pairs : List (List ℕ × V)) (q : List ℕ) → AllByRecursion P (keys_of pairs) → IsSome (value_at pairs q) → P q
all_stands P [] q all stands = absurd (false≢true stands)
all_stands P ((k, x) ∷ rest) q all stands = elim (cases_Bool (are_same q k)) [
  | inl same ↦ subst P (sym (from_are_same q k same)) all.0
  | inr differ ↦ all_stands P rest q all.1 (rw differ at stands)
]

module _ (from : List ℕ) (strict : Bool) where
  -- a key that reaches the bound is another than one that does not
  differ_by_reach : (key k : List ℕ) → reaches from strict key ≡ true → reaches from strict k ≡ false → are_same key k ≡ false
  differ_by_reach key k at short = elim (cases_Bool (are_same key k)) [
    | inl same ↦ absurd (both_ways _ short (subst (λ a. reaches from strict a ≡ true) (from_are_same key k same) at))
    | inr differ ↦ differ
  ]

module _ {V : Type 0} (from : List ℕ) (strict : Bool) where
  -- where there is no first pair, no key reaches the bound
  pub none_reaches : (pairs : List (List ℕ × V)) → first_from pairs from strict ≡ None → AllByRecursion (λ k. reaches from strict k ≡ false) (keys_of pairs)
  none_reaches [] none = tt
  none_reaches ((k, x) ∷ rest) none = elim (cases_Bool (reaches from strict k)) [
    | inl at ↦ absurd (none-some (k, x) (sym (rw at at none)))
    | inr short ↦ (short, none_reaches rest (rw short at none))
  ]

  pub none_stands : (pairs : List (List ℕ × V)) → first_from pairs from strict ≡ None → (q : List ℕ) → reaches from strict q ≡ true → IsSome (value_at pairs q) → ⊥
  none_stands pairs none q at stands = both_ways _ (all_stands (λ k. reaches from strict k ≡ false) pairs q (none_reaches pairs none) stands) at

  module _ (key : List ℕ) (value : V) where
    -- the first pair's key reaches the bound, and its value stands there
    pub first_stands : (pairs : List (List ℕ × V)) → first_from pairs from strict ≡ Some (key, value) → (reaches from strict key ≡ true) × (value_at pairs key ≡ Some value)
    first_stands [] first = absurd (none-some (key, value) first)
    first_stands ((k, x) ∷ rest) first = elim (cases_Bool (reaches from strict k)) [
      | inl at ↦ let same = some_pair_parts k key x value (rw at at first) in rw (← same.0, ← same.1, tied_itself nat_list_cmp_total k) (at, refl)
      | inr short ↦ let later = first_stands rest (rw short at first) in (later.0, rw (differ_by_reach from strict key k later.0 short) later.1)
    ]

    -- and no key that reaches the bound is below it
    pub first_is_least : (pairs : List (List ℕ × V)) → IsInOrder pairs → first_from pairs from strict ≡ Some (key, value) → (q : List ℕ) → reaches from strict q ≡ true → IsSome (value_at pairs q) → is_le (key_cmp key q) ≡ true
    first_is_least [] in_order first q reached stands = absurd (false≢true stands)
    first_is_least ((k, x) ∷ rest) in_order first q reached stands = elim (cases_Bool (reaches from strict k)) [
      | inl at ↦ let same = some_pair_parts k key x value (rw at at first) in elim (cases_Bool (are_same q k)) [
        | inl this ↦ rw (← same.0, from_are_same q k this) (ap is_le (tied_itself nat_list_cmp_total k))
        | inr other ↦ rw (← same.0) (ap is_le (all_stands (λ a. key_cmp k a ≡ Less) rest q (sorted_head key_cmp k (keys_of rest) in_order) (rw other at stands)))
      ]
      | inr short ↦ first_is_least rest (sorted_tail key_cmp k (keys_of rest) in_order) (rw short at first) q reached (rw (differ_by_reach from strict q k reached short) at stands)
    ]

-- ---- the pairs from a bound on

module _ {V : Type 0} (from : List ℕ) (strict : Bool) where
  -- hold what stands at a key that reaches it
  pub value_at-pairs_from : (pairs : List (List ℕ × V)) (key : List ℕ) → reaches from strict key ≡ true → value_at pairs key ≡ value_at (pairs_from pairs from strict) key
  value_at-pairs_from [] key at = refl
  value_at-pairs_from ((k, x) ∷ rest) key at = elim (cases_Bool (reaches from strict k)) [
    | inl too ↦ rw too (ap (λ o. if are_same key k then Some x else o) (value_at-pairs_from rest key at))
    | inr short ↦ rw (short, differ_by_reach from strict key k at short) (value_at-pairs_from rest key at)
  ]

  -- all reach it
  pub all_reach : (pairs : List (List ℕ × V)) → AllByRecursion (λ k. reaches from strict k ≡ true) (keys_of (pairs_from pairs from strict))
  all_reach [] = tt
  all_reach ((k, x) ∷ rest) = elim (cases_Bool (reaches from strict k)) [
    | inl at ↦ rw at (at, all_reach rest)
    | inr short ↦ rw short (all_reach rest)
  ]

  all-pairs_from : (P : List ℕ → Type 0) (pairs : List (List ℕ × V)) → AllByRecursion P (keys_of pairs) → AllByRecursion P (keys_of (pairs_from pairs from strict))
  all-pairs_from P [] all = tt
  all-pairs_from P ((k, x) ∷ rest) all = elim (cases_Bool (reaches from strict k)) [
    | inl at ↦ rw at (all.0, all-pairs_from P rest all.1)
    | inr short ↦ rw short (all-pairs_from P rest all.1)
  ]

  -- and stand in order
  pub in_order-pairs_from : (pairs : List (List ℕ × V)) → IsInOrder pairs → IsInOrder (pairs_from pairs from strict)
  unfolding IsStrictlySortedBy
  in_order-pairs_from [] sorted = tt
  in_order-pairs_from ((k, x) ∷ rest) sorted = elim (cases_Bool (reaches from strict k)) [
    | inl at ↦ rw at (all-pairs_from (λ y. key_cmp k y ≡ Less) rest sorted.0, in_order-pairs_from rest sorted.1)
    | inr short ↦ rw short (in_order-pairs_from rest sorted.1)
  ]

-- nothing stands at a key that all keys are above
pub value_at-lesser : {V : Type 0} (key : List ℕ) (pairs : List (List ℕ × V)) → AllByRecursion (λ k. key_cmp key k ≡ Less) (keys_of pairs) → value_at pairs key ≡ None
value_at-lesser key [] above = refl
value_at-lesser key ((k, x) ∷ rest) above = rw above.0 (value_at-lesser key rest above.1)
