-- Look-ups and edits in two lists of pairs, one after the other.
use Rattle.std.proofs.Common.{◌≡◌, ℕ, ◌<◌, length, arith, Bool, [], ◌∷◌, ◌++◌, List, Some, None, refl, sym, inl, inr}
use Rattle.std.specs.List.{AllByRecursion}
use Rattle.std.specs.List.Sorted.{IsStrictlySortedBy}
use Rattle.std.specs.declared.cmp.Ordering.{Ordering}
use Rattle.std.specs.declared.cmp.Ordering.TheVariants.{Less, Equal, Greater}
use Rattle.std.specs.Map.{keys_of}
use Rattle.std.specs.Ordering.{is_eq, match_ordering}
use Rattle.std.proofs.lemmas.Bool.{cases_Bool}
use Rattle.std.proofs.lemmas.Cmp.{nat_list_cmp_total}
use Rattle.std.proofs.lemmas.Option.{none-some}
use Rattle.ltx_model.specs.Keys.{key_cmp}
use Rattle.ltx_index.specs.Pairs.{IsInOrder, value_at, with_pair, with_value, without_key}
use Rattle.ltx_index.specs.Places.{AreBelow, AreAbove}
use Rattle.ltx_model.proofs.KeyOrder.{key_turned}

-- ---- what holds of all keys

pub all_append : {X : Type 0} (P : X → Type 0) (xs ys : List X) → AllByRecursion P xs → AllByRecursion P ys → AllByRecursion P (xs ++ ys)
all_append P [] ys first second = second
all_append P (x ∷ xs) ys first second = (first.0, all_append P xs ys first.1 second)

pub all_left : {X : Type 0} (P : X → Type 0) (xs ys : List X) → AllByRecursion P (xs ++ ys) → AllByRecursion P xs
all_left P [] ys all = tt
all_left P (x ∷ xs) ys all = (all.0, all_left P xs ys all.1)

pub all_right : {X : Type 0} (P : X → Type 0) (xs ys : List X) → AllByRecursion P (xs ++ ys) → AllByRecursion P ys
all_right P [] ys all = all
all_right P (x ∷ xs) ys all = all_right P xs ys all.1

pub all_implied : {X : Type 0} (P Q : X → Type 0) → ((x : X) → P x → Q x) → (xs : List X) → AllByRecursion P xs → AllByRecursion Q xs
all_implied P Q implies [] all = tt
all_implied P Q implies (x ∷ xs) all = (implies x all.0, all_implied P Q implies xs all.1)

-- ---- where the second list holds the place, since the key is above all of the first

module _ {V : Type 0} (key : List ℕ) (ys : List (List ℕ × V)) where
  pub value_at-below : (xs : List (List ℕ × V)) → AreBelow key (keys_of xs) → value_at (xs ++ ys) key ≡ value_at ys key
  value_at-below [] below = refl
  value_at-below ((k, x) ∷ xs) below = rw below.0 (value_at-below xs below.1)

  pub with_pair-below : (value : V) (xs : List (List ℕ × V)) → AreBelow key (keys_of xs) → with_pair (xs ++ ys) key value ≡ xs ++ with_pair ys key value
  with_pair-below value [] below = refl
  with_pair-below value ((k, x) ∷ xs) below = rw (below.0, with_pair-below value xs below.1) refl

  pub with_value-below : (value : V) (xs : List (List ℕ × V)) → AreBelow key (keys_of xs) → with_value (xs ++ ys) key value ≡ xs ++ with_value ys key value
  with_value-below value [] below = refl
  with_value-below value ((k, x) ∷ xs) below = rw (below.0, with_value-below value xs below.1) refl

  pub without_key-below : (xs : List (List ℕ × V)) → AreBelow key (keys_of xs) → without_key (xs ++ ys) key ≡ xs ++ without_key ys key
  without_key-below [] below = refl
  without_key-below ((k, x) ∷ xs) below = rw (below.0, without_key-below xs below.1) refl

-- ---- where the first list holds it, since the key is below all of the second

module _ {V : Type 0} (key : List ℕ) where
  nothing_above : (ys : List (List ℕ × V)) → AreAbove key (keys_of ys) → value_at ys key ≡ None
  nothing_above [] above = refl
  nothing_above ((k, y) ∷ ys) above = rw above.0 (nothing_above ys above.1)

  with_value-nothing : (value : V) (ys : List (List ℕ × V)) → AreAbove key (keys_of ys) → with_value ys key value ≡ ys
  with_value-nothing value [] above = refl
  with_value-nothing value ((k, y) ∷ ys) above = rw (above.0, with_value-nothing value ys above.1) refl

  without_key-nothing : (ys : List (List ℕ × V)) → AreAbove key (keys_of ys) → without_key ys key ≡ ys
  without_key-nothing [] above = refl
  without_key-nothing ((k, y) ∷ ys) above = rw (above.0, without_key-nothing ys above.1) refl

  with_pair-before : (value : V) (ys : List (List ℕ × V)) → AreAbove key (keys_of ys) → with_pair ys key value ≡ (key, value) ∷ ys
  with_pair-before value [] above = refl
  with_pair-before value ((k, y) ∷ ys) above = rw above.0 refl

module _ {V : Type 0} (key : List ℕ) (ys : List (List ℕ × V)) (above : AreAbove key (keys_of ys)) where
  pub value_at-above : (xs : List (List ℕ × V)) → value_at (xs ++ ys) key ≡ value_at xs key
  value_at-above [] = nothing_above key ys above
  value_at-above ((k, x) ∷ xs) = rw (value_at-above xs) refl

  pub with_value-above : (value : V) (xs : List (List ℕ × V)) → with_value (xs ++ ys) key value ≡ with_value xs key value ++ ys
  with_value-above value [] = with_value-nothing key value ys above
  with_value-above value ((k, x) ∷ xs) = elim (cases_Bool (is_eq (key_cmp key k))) [
    | inl same ↦ rw same refl
    | inr differ ↦ rw (differ, with_value-above value xs) refl
  ]

  pub without_key-above : (xs : List (List ℕ × V)) → without_key (xs ++ ys) key ≡ without_key xs key ++ ys
  without_key-above [] = without_key-nothing key ys above
  without_key-above ((k, x) ∷ xs) = elim (cases_Bool (is_eq (key_cmp key k))) [
    | inl same ↦ rw same refl
    | inr differ ↦ rw (differ, without_key-above xs) refl
  ]

  put_step : (value : V) (k : List ℕ) (x : V) (rest put : List (List ℕ × V)) (o : Ordering) → match_ordering o ((key, value) ∷ (k, x) ∷ (rest ++ ys)) ((k, value) ∷ (rest ++ ys)) ((k, x) ∷ (put ++ ys)) ≡ match_ordering o ((key, value) ∷ (k, x) ∷ rest) ((k, value) ∷ rest) ((k, x) ∷ put) ++ ys
  put_step value k x rest put Less = refl
  put_step value k x rest put Equal = refl
  put_step value k x rest put Greater = refl

  pub with_pair-above : (value : V) (xs : List (List ℕ × V)) → with_pair (xs ++ ys) key value ≡ with_pair xs key value ++ ys
  with_pair-above value [] = with_pair-before key value ys above
  with_pair-above value ((k, x) ∷ xs) = rw (with_pair-above value xs) (put_step value k x xs (with_pair xs key value) (key_cmp key k))

-- ---- order

-- both lists are in order, and the keys of the first are below those of the second
pub record AreParted (xs ys : List (List ℕ)) : Type 0 where
  pub left : IsStrictlySortedBy key_cmp xs
  pub right : IsStrictlySortedBy key_cmp ys
  pub across : AllByRecursion (λ x. AllByRecursion (λ y. key_cmp x y ≡ Less) ys) xs

pub parted : (xs ys : List (List ℕ)) → IsStrictlySortedBy key_cmp (xs ++ ys) → AreParted xs ys
unfolding IsStrictlySortedBy
parted [] ys sorted = record { left = tt; right = sorted; across = tt }
parted (x ∷ xs) ys sorted =
    let rest = parted xs ys sorted.1 in
    record {
      left = (all_left _ xs ys sorted.0, rest.left);
      right = rest.right;
      across = (all_right _ xs ys sorted.0, rest.across);
    }

module _ {V : Type 0} (key : List ℕ) where
  all_put_step : (P : List ℕ → Type 0) (value : V) (k : List ℕ) (x : V) (rest put : List (List ℕ × V)) → P k → AllByRecursion P (keys_of rest) → P key → AllByRecursion P (keys_of put) → (o : Ordering) → AllByRecursion P (keys_of (match_ordering o ((key, value) ∷ (k, x) ∷ rest) ((k, value) ∷ rest) ((k, x) ∷ put)))
  all_put_step P value k x rest put at all here later Less = (here, (at, all))
  all_put_step P value k x rest put at all here later Equal = (at, all)
  all_put_step P value k x rest put at all here later Greater = (at, later)

  -- what holds of all keys and of this one holds of all after it is put
  pub all-with_pair : (P : List ℕ → Type 0) (value : V) (pairs : List (List ℕ × V)) → AllByRecursion P (keys_of pairs) → P key → AllByRecursion P (keys_of (with_pair pairs key value))
  all-with_pair P value [] all here = (here, tt)
  all-with_pair P value ((k, x) ∷ rest) all here = all_put_step P value k x rest (with_pair rest key value) all.0 all.1 here (all-with_pair P value rest all.1 here) (key_cmp key k)

  put_in_order : (value : V) (k : List ℕ) (x : V) (rest put : List (List ℕ × V)) → IsInOrder ((k, x) ∷ rest) → IsInOrder put → (key_cmp k key ≡ Less → AllByRecursion (λ y. key_cmp k y ≡ Less) (keys_of put)) → (o : Ordering) → key_cmp key k ≡ o → IsInOrder (match_ordering o ((key, value) ∷ (k, x) ∷ rest) ((k, value) ∷ rest) ((k, x) ∷ put))
  unfolding IsStrictlySortedBy
  put_in_order value k x rest put sorted put_sorted above Less o = ((o, all_implied (λ y. key_cmp k y ≡ Less) (λ y. key_cmp key y ≡ Less) (λ y later. nat_list_cmp_total.trans key k y o later) (keys_of rest) sorted.0), sorted)
  put_in_order value k x rest put sorted put_sorted above Equal o = sorted
  put_in_order value k x rest put sorted put_sorted above Greater o = (above (key_turned key k Greater o), put_sorted)

  filled_step : (value : V) (k : List ℕ) (x : V) (rest put : List (List ℕ × V)) (o : Ordering) → 0 < length (match_ordering o ((key, value) ∷ (k, x) ∷ rest) ((k, value) ∷ rest) ((k, x) ∷ put))
  filled_step value k x rest put Less = omega arith
  filled_step value k x rest put Equal = omega arith
  filled_step value k x rest put Greater = omega arith

  -- what a pair was put into is not empty
  pub filled-with_pair : (value : V) (pairs : List (List ℕ × V)) → 0 < length (with_pair pairs key value)
  filled-with_pair value [] = omega arith
  filled-with_pair value ((k, x) ∷ rest) = filled_step value k x rest (with_pair rest key value) (key_cmp key k)

  -- the order stays where a pair is put
  pub in_order-with_pair : (value : V) (pairs : List (List ℕ × V)) → IsInOrder pairs → IsInOrder (with_pair pairs key value)
  unfolding IsStrictlySortedBy
  in_order-with_pair value [] sorted = (tt, tt)
  in_order-with_pair value ((k, x) ∷ rest) sorted = put_in_order value k x rest (with_pair rest key value) sorted (in_order-with_pair value rest sorted.1) (λ above. all-with_pair (λ y. key_cmp k y ≡ Less) value rest sorted.0 above) (key_cmp key k) refl

  all-without_key : (P : List ℕ → Type 0) (pairs : List (List ℕ × V)) → AllByRecursion P (keys_of pairs) → AllByRecursion P (keys_of (without_key pairs key))
  all-without_key P [] all = tt
  all-without_key P ((k, x) ∷ rest) all = elim (cases_Bool (is_eq (key_cmp key k))) [
    | inl same ↦ rw same all.1
    | inr differ ↦ rw differ (all.0, all-without_key P rest all.1)
  ]

  -- and where one is taken out
  pub in_order-without_key : (pairs : List (List ℕ × V)) → IsInOrder pairs → IsInOrder (without_key pairs key)
  unfolding IsStrictlySortedBy
  in_order-without_key [] sorted = tt
  in_order-without_key ((k, x) ∷ rest) sorted = elim (cases_Bool (is_eq (key_cmp key k))) [
    | inl same ↦ rw same sorted.1
    | inr differ ↦ rw differ (all-without_key (λ y. key_cmp k y ≡ Less) rest sorted.0, in_order-without_key rest sorted.1)
  ]
