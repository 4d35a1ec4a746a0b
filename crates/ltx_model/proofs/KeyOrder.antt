-- The order of keys by their bytes: it is total, and keys that tie are one. What stands above a key that reaches a bound.
use Rattle.std.proofs.Common.{◌≡◌, ◌⊎◌, inl, inr, ℕ, Bool, true, false, not, ◌||◌, List, [], ◌∷◌, refl, sym, ap, ◌∙◌}
use Rattle.std.specs.declared.cmp.Ordering.{Ordering}
use Rattle.std.specs.declared.cmp.Ordering.TheVariants.{Less, Equal, Greater}
use Rattle.std.specs.Ordering.{is_lt, is_le, ordering_reverse}
use Rattle.std.specs.Cmp.{IsTotalOrder, tied_itself}
use Rattle.std.specs.Cmp.Lexicographic.{nat_list_cmp_total}
use Rattle.std.specs.FinMap.{nat_cmp-IsAntisymmetric, slice_cmp-IsAntisymmetric}
use Rattle.ltx_model.specs.Keys.{key_cmp, is_empty, is_below_end}
use Rattle.ltx_model.specs.NextKeys.{reaches}
use Rattle.ltx_model.proofs.Orderings.{is_less, is_less_or_equal, reversed_at_most}

pub key_total : IsTotalOrder key_cmp
key_total = nat_list_cmp_total

pub key_itself : (k : List ℕ) → key_cmp k k ≡ Equal
key_itself k = tied_itself nat_list_cmp_total k

pub same_keys : (a b : List ℕ) → key_cmp a b ≡ Equal → a ≡ b
same_keys a b e = slice_cmp-IsAntisymmetric nat_cmp-IsAntisymmetric a b e

-- the order the other way round
pub key_turned : (a b : List ℕ) (o : Ordering) → key_cmp a b ≡ o → key_cmp b a ≡ ordering_reverse o
key_turned a b o e = nat_list_cmp_total.antisymm b a ∙ ap ordering_reverse e

-- one is at most the other where that is not below it
pub key_at_most : (a b : List ℕ) → is_le (key_cmp a b) ≡ not (is_lt (key_cmp b a))
key_at_most a b = ap is_le (nat_list_cmp_total.antisymm a b) ∙ reversed_at_most (key_cmp b a)

-- no key is below no bytes
pub none_below : (k : List ℕ) → is_lt (key_cmp k []) ≡ false
none_below [] = refl
none_below (x ∷ xs) = refl

-- what stands above a key that is at least the bound is above the bound
pub above_past : (from k l : List ℕ) → key_cmp k l ≡ Less → is_le (key_cmp from k) ≡ true → key_cmp from l ≡ Less
above_past from k l past at = by_order (is_less_or_equal (key_cmp from k) at) where
  by_order : (key_cmp from k ≡ Less) ⊎ (key_cmp from k ≡ Equal) → key_cmp from l ≡ Less
  by_order (inl below) = nat_list_cmp_total.trans from k l below past
  by_order (inr tied) = nat_list_cmp_total.congr from k l tied ∙ past

-- what stands above a key that reaches the bound reaches it too
pub reaches_past : (from : List ℕ) (strict : Bool) (k l : List ℕ) → key_cmp k l ≡ Less → reaches from strict k ≡ true → reaches from strict l ≡ true
reaches_past from true k l past at = ap is_lt (nat_list_cmp_total.trans from k l (is_less (key_cmp from k) at) past)
reaches_past from false k l past at = ap is_le (above_past from k l past at)

-- what is below a key that falls short of the bound is below the bound
pub short_below : (from : List ℕ) (strict : Bool) (k l : List ℕ) → key_cmp k l ≡ Less → reaches from strict l ≡ false → key_cmp from k ≡ Greater
short_below from strict k l below short = by_order (key_cmp from l) refl (fails strict short) where
  fails : (strict : Bool) → reaches from strict l ≡ false → is_lt (key_cmp from l) ≡ false
  fails true e = e
  fails false e = at_most (key_cmp from l) e where
    at_most : (o : Ordering) → is_le o ≡ false → is_lt o ≡ false
    at_most Less f = cc
    at_most Equal f = refl
    at_most Greater f = refl

  by_order : (o : Ordering) → key_cmp from l ≡ o → is_lt o ≡ false → key_cmp from k ≡ Greater
  by_order Less is e = cc
  by_order Equal is e = nat_list_cmp_total.congr from l k is ∙ key_turned k l Less below
  by_order Greater is e = key_turned k from Less (nat_list_cmp_total.trans k l from below (key_turned from l Greater is))

-- a key that is not above another is below it, or is it
pub not_past : (k key : List ℕ) → reaches k true key ≡ false → (key_cmp key k ≡ Less) ⊎ (key ≡ k)
not_past k key short = by_order (key_cmp k key) refl short where
  by_order : (o : Ordering) → key_cmp k key ≡ o → is_lt o ≡ false → (key_cmp key k ≡ Less) ⊎ (key ≡ k)
  by_order Less is e = cc
  by_order Equal is e = inr (sym (same_keys k key is))
  by_order Greater is e = inl (key_turned k key Greater is)

-- a key below one that is below the upper end is so too
pub below_end_lesser : (high key k : List ℕ) → key_cmp key k ≡ Less → is_below_end high k ≡ true → is_below_end high key ≡ true
below_end_lesser high key k less below = by_end (is_empty high) below where
  by_end : (b : Bool) → (b || is_lt (key_cmp k high)) ≡ true → (b || is_lt (key_cmp key high)) ≡ true
  by_end true e = refl
  by_end false e = ap is_lt (nat_list_cmp_total.trans key k high less (is_less (key_cmp k high) e))
