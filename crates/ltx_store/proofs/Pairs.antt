-- A table's pairs with another value at a key that stands there.
use Rattle.std.proofs.Common.{◌≡◌, ℕ, ◌+◌, ◌-◌, ◌<◌, ◌≤◌, Bool, true, false, cond, List, [], ◌∷◌, ◌++◌, Option, Some, Result, Ok, Err, refl, sym, ap, ◌∙◌, subst, arith}
use Rattle.std.specs.Result.{OnOk, OnErr}
use Rattle.std.specs.List.Sorted.{IsStrictlySortedBy}
use Rattle.std.specs.Option.{IsSome}
use Rattle.std.specs.declared.cmp.Ordering.{Ordering}
use Rattle.std.specs.declared.cmp.Ordering.TheVariants.{Less, Equal, Greater}
use Rattle.std.specs.Ordering.{is_eq, ordering_reverse, match_ordering}
use Rattle.std.specs.Cmp.Lexicographic.{nat_list_cmp_total}
use Rattle.ltx_model.specs.Keys.{key_cmp}
use Rattle.ltx_index.specs.Pairs.{IsInOrder, value_at, with_pair, with_value}
use Rattle.ltx_index.proofs.Lookups.{all_stands, keys-with_value}
use Rattle.ltx_model.specs.declared.memory.NoMemory.{NoMemory}
use Rattle.ltx_chain.specs.declared.chain.Version.{Version}
use Rattle.ltx_chain.specs.Versions.{Versions}
use Rattle.ltx_store.specs.Kept.{items_of, room_of, installed}
use Rattle.ltx_store.specs.Pairs.{IsRoomMade}

module _ {V : Type 0} where
  by_cmp : (o : Ordering) (e : List ℕ × V) (es : List (List ℕ × V)) (key : List ℕ) (w : V) → key_cmp key e.0 ≡ o
      → (IsSome (value_at es key) → key_cmp e.0 key ≡ Less) → IsSome (cond (is_eq o) (Some e.1) (value_at es key))
      → (IsSome (value_at es key) → with_value es key w ≡ with_pair es key w)
      → cond (is_eq o) ((e.0, w) ∷ es) (e ∷ with_value es key w) ≡ match_ordering o ((key, w) ∷ e ∷ es) ((e.0, w) ∷ es) (e ∷ with_pair es key w)
  by_cmp Less e es key w is above found rest =
      let back : key_cmp e.0 key ≡ Greater = nat_list_cmp_total.antisymm e.0 key ∙ ap ordering_reverse is in
      let less = above found in
      cc
  by_cmp Equal e es key w is above found rest = refl
  by_cmp Greater e es key w is above found rest = ap (λ l. e ∷ l) (rest found)

  -- another value at a key that stands there is put in its place
  pub with_value_put : (pairs : List (List ℕ × V)) (key : List ℕ) (w : V) → IsInOrder pairs → IsSome (value_at pairs key) → with_value pairs key w ≡ with_pair pairs key w
  unfolding IsStrictlySortedBy
  with_value_put [] key w order found = cc
  with_value_put (e ∷ es) key w order found =
      by_cmp (key_cmp key e.0) e es key w refl (λ stands. all_stands (λ k. key_cmp e.0 k ≡ Less) es key order.0 stands) found (with_value_put es key w order.1)

  -- the value that stands there changes nothing
  pub with_value_same : (pairs : List (List ℕ × V)) (key : List ℕ) (v : V) → value_at pairs key ≡ Some v → with_value pairs key v ≡ pairs
  with_value_same [] key v stands = refl
  with_value_same (e ∷ es) key v stands = by_test (is_eq (key_cmp key e.0)) stands (with_value_same es key v) where
    by_test : (b : Bool) → cond b (Some e.1) (value_at es key) ≡ Some v → (value_at es key ≡ Some v → with_value es key v ≡ es) → cond b ((e.0, v) ∷ es) (e ∷ with_value es key v) ≡ e ∷ es
    by_test true here rest = let same : e.1 ≡ v = cc in ap (λ x. let p : List ℕ × V = (e.0, x) in p ∷ es) (sym same)
    by_test false here rest = ap (λ l. e ∷ l) (rest here)

some_stands : (o : Option Versions) (v : Versions) → Some v ≡ o → IsSome o
some_stands o v is = subst (λ p. IsSome p) is refl

-- a version more, where the key stands
pub installed_in_place : (pairs : List (List ℕ × Versions)) (key : List ℕ) (v w : Versions) (version : Version) → IsInOrder pairs → Some v ≡ value_at pairs key
    → w.items ≡ v.items ++ version ∷ [] → w.room + 1 ≡ v.room → with_value pairs key w ≡ with_pair pairs key (installed (value_at pairs key) version)
installed_in_place pairs key v w version order is items room =
    let now : w.room ≡ v.room - 1 = omega arith in
    let same : w ≡ installed (Some v) version = λ i. record { items = items i; room = now i } in
    with_value_put pairs key w order (some_stands (value_at pairs key) v is) ∙ ap (with_pair pairs key) (same ∙ ap (λ o. installed o version) is)

-- room made, or not, where the key stands
pub made_in_place : (pairs : List (List ℕ × Versions)) (key : List ℕ) (v w : Versions) (r : Result (Unit {0}) NoMemory) → IsInOrder pairs → Some v ≡ value_at pairs key
    → w.items ≡ v.items → v.room ≤ w.room → OnOk r (0 < w.room) → OnOk r (IsRoomMade pairs (with_value pairs key w) key)
made_in_place pairs key v w (Ok u) order is items kept made = record {
  versions = w;
  put = with_value_put pairs key w order (some_stands (value_at pairs key) v is);
  items = items ∙ ap items_of is;
  made = made;
  kept = subst (λ o. room_of o ≤ w.room) is kept;
}
made_in_place pairs key v w (Err e) order is items kept made = tt

pub kept_in_place : (pairs : List (List ℕ × Versions)) (key : List ℕ) (v w : Versions) (r : Result (Unit {0}) NoMemory) → Some v ≡ value_at pairs key
    → OnErr r (w ≡ v) → OnErr r (with_value pairs key w ≡ pairs)
kept_in_place pairs key v w (Ok u) is kept = tt
kept_in_place pairs key v w (Err e) is kept = ap (with_value pairs key) kept ∙ with_value_same pairs key v (sym is)

-- another value at a key leaves the order
pub in_order_with_value : {V : Type 0} (pairs : List (List ℕ × V)) (key : List ℕ) (w : V) → IsInOrder pairs → IsInOrder (with_value pairs key w)
in_order_with_value pairs key w order = subst (IsStrictlySortedBy key_cmp) (sym (keys-with_value pairs key w)) order
