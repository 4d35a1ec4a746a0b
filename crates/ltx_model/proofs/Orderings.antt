-- What a comparison says: its three results, and the order of numbers.
use Rattle.std.proofs.Common.{◌≡◌, ◌⊎◌, inl, inr, ℕ, ◌<◌, true, false, not, refl, sym}
use Rattle.std.specs.declared.cmp.Ordering.{Ordering}
use Rattle.std.specs.declared.cmp.Ordering.TheVariants.{Less, Equal, Greater}
use Rattle.std.specs.Ordering.{nat_cmp, is_eq, is_lt, is_le, ordering_then, ordering_reverse}
use Rattle.std.specs.Cmp.{nat_cmp_is, nat_cmp_total, tied_itself}

-- tests
pub is_less : (o : Ordering) → is_lt o ≡ true → o ≡ Less
is_less Less e = refl
is_less Equal e = cc
is_less Greater e = cc

pub is_equal : (o : Ordering) → is_eq o ≡ true → o ≡ Equal
is_equal Less e = cc
is_equal Equal e = refl
is_equal Greater e = cc

pub is_less_or_equal : (o : Ordering) → is_le o ≡ true → (o ≡ Less) ⊎ (o ≡ Equal)
is_less_or_equal Less e = inl refl
is_less_or_equal Equal e = inr refl
is_less_or_equal Greater e = cc

-- one is at most the other where that is not below it
pub reversed_at_most : (o : Ordering) → is_le (ordering_reverse o) ≡ not (is_lt o)
reversed_at_most Less = refl
reversed_at_most Equal = refl
reversed_at_most Greater = refl

-- one order and then another
pub then_equal : (a b : Ordering) → ordering_then a b ≡ Equal → (a ≡ Equal) × (b ≡ Equal)
then_equal Less b e = cc
then_equal Equal b e = (refl, e)
then_equal Greater b e = cc

pub then_not_less : (a b : Ordering) → is_lt a ≡ false → is_lt b ≡ false → is_lt (ordering_then a b) ≡ false
then_not_less Less b e f = cc
then_not_less Equal b e f = f
then_not_less Greater b e f = refl

pub then_none : (r : Ordering) → ordering_then r Equal ≡ r
then_none Less = refl
then_none Equal = refl
then_none Greater = refl

pub then_assoc : (r s t : Ordering) → ordering_then (ordering_then r s) t ≡ ordering_then r (ordering_then s t)
then_assoc Less s t = refl
then_assoc Equal s t = refl
then_assoc Greater s t = refl

-- numbers
pub number_itself : (n : ℕ) → nat_cmp n n ≡ Equal
number_itself n = tied_itself nat_cmp_total n

pub number_below : (m n : ℕ) → m < n → nat_cmp m n ≡ Less
number_below m n less = sym (nat_cmp_is m n Less less)

pub number_above : (m n : ℕ) → n < m → nat_cmp m n ≡ Greater
number_above m n less = sym (nat_cmp_is m n Greater less)
