-- Keys stand in the order of their heads, where these differ.
use Rattle.std.proofs.Common.{◌≡◌, ℕ, ◌<◌, ◌≤◌, Bool, true, false, not, List, [], ◌∷◌, map, length, take, drop, get_or, suc, zero, refl, sym, ap, ◌∙◌, subst, inl, inr, arith, w64, nat_cmp, slice_get, Some, None}
use Rattle.std.specs.List.{AllByRecursion, insert, remove}
use Rattle.std.specs.List.Sorted.{IsStrictlySortedBy, IsNonDecreasingBy, IsPartitionedBy, IsPartitionPoint}
use Rattle.std.proofs.lemmas.List.Elements.{All-from_recursion}
use Rattle.std.proofs.lemmas.Bool.{cases_lt, ltb-true}
use Rattle.std.proofs.lemmas.List.{length-map}
use Rattle.std.proofs.Math.Dec.{ltb}
use Rattle.std.proofs.lemmas.List.Sorted.{IsPartitionedBy-ltb}
use Rattle.std.specs.Ordering.{ordering_then, is_lt, is_le, MatchOrdering}
use Rattle.std.specs.declared.cmp.Ordering.{Ordering}
use Rattle.std.specs.declared.cmp.Ordering.TheVariants.{Less, Equal, Greater}
use Rattle.std.specs.Cmp.{nat_cmp_is, ranks}
use Rattle.ltx_index.proofs.Places.{in_order-insert, in_order-remove, in_order-take, in_order-drop}
use Rattle.std.specs.Cmp.Lexicographic.{slice_cmp}
use Rattle.std.proofs.lemmas.Cmp.{nat_list_cmp_total}
use Rattle.ltx_model.specs.Keys.{key_cmp}
use Rattle.ltx_model.specs.NextKeys.{reaches}
use Rattle.ltx_model.proofs.KeyOrder.{key_turned}
use Rattle.ltx_model.proofs.Words.{eights}
use Rattle.ltx_index.specs.Places.{AreAbove, AreBelow, IsGapAt, IsStartAt}
use Rattle.ltx_index.specs.Heads.{padded, head_of, low_of, first_of, AreLow, AreHeaded}

eight_long : (n : ℕ) (xs : List ℕ) → length (padded n xs) ≡ n
eight_long zero xs = refl
eight_long (suc n) [] = ap suc (eight_long n [])
eight_long (suc n) (x ∷ xs) = ap suc (eight_long n xs)

bytes_stay : (n : ℕ) (xs : List ℕ) → AreLow xs → AreLow (padded n xs)
bytes_stay zero xs low i = omega arith
bytes_stay (suc n) [] low zero = omega arith
bytes_stay (suc n) [] low (suc i) = bytes_stay n [] low i
bytes_stay (suc n) (x ∷ xs) low zero = low 0
bytes_stay (suc n) (x ∷ xs) low (suc i) = bytes_stay n xs (λ j. low (suc j)) i

-- one byte more
step : (r s t : Ordering) → (s ≡ Less → t ≡ Less) → ordering_then r s ≡ Less → ordering_then r t ≡ Less
step Less s t more less = refl
step Equal s t more less = more less
step Greater s t more less = less

-- nothing is below zeros
never : (n : ℕ) (xs : List ℕ) → slice_cmp nat_cmp (padded n xs) (padded n []) ≡ Less → ⊥
never zero xs less = grind (arith, less)
never (suc n) [] less = never n [] less
never (suc n) (zero ∷ xs) less = never n xs less
never (suc n) (suc x ∷ xs) less = grind (arith, less)

padded_less : (n : ℕ) (xs ys : List ℕ) → slice_cmp nat_cmp (padded n xs) (padded n ys) ≡ Less → slice_cmp nat_cmp xs ys ≡ Less
padded_less zero xs ys less = absurd (grind (arith, less))
padded_less (suc n) [] [] less = padded_less n [] [] less
padded_less (suc n) [] (y ∷ ys) less = refl
padded_less (suc n) (x ∷ xs) [] less = absurd (never (suc n) (x ∷ xs) less)
padded_less (suc n) (x ∷ xs) (y ∷ ys) less = step (nat_cmp x y) (slice_cmp nat_cmp (padded n xs) (padded n ys)) (slice_cmp nat_cmp xs ys) (padded_less n xs ys) less

pub heads_order : (xs ys : List ℕ) → AreLow xs → AreLow ys → head_of xs < head_of ys → key_cmp xs ys ≡ Less
unfolding head_of
heads_order xs ys low_x low_y less = padded_less 8 xs ys (sym (eights (padded 8 xs) (padded 8 ys) (eight_long 8 xs) (eight_long 8 ys) (bytes_stay 8 xs low_x) (bytes_stay 8 ys low_y)) ∙ sym (nat_cmp_is (head_of xs) (head_of ys) Less less))

-- ---- keys with their heads

pub first_low : (ks : List (List ℕ)) → AllByRecursion AreLow ks → AreLow (first_of ks)
first_low [] all = λ i. omega arith
first_low (k ∷ ks) all = all.0

pub low_is : (ks : List (List ℕ)) → low_of (map head_of ks) ≡ head_of (first_of ks)
low_is [] = refl
low_is (k ∷ ks) = refl

less_or_greater : (o : Ordering) → o ≡ Less → o ≡ Greater → ⊥
less_or_greater Less less greater = cc
less_or_greater Equal less greater = cc
less_or_greater Greater less greater = cc

-- a greater key has no lesser head
head_at_most : (k l : List ℕ) → AreLow k → AreLow l → key_cmp k l ≡ Less → head_of k ≤ head_of l
head_at_most k l low_k low_l below = elim (cases_lt (head_of l) (head_of k)) [
  | inl less ↦ absurd (less_or_greater (key_cmp l k) (heads_order l k low_l low_k less) (key_turned k l Less below))
  | inr most ↦ most
]

at_least : (k : List ℕ) (ks : List (List ℕ)) → AreLow k → AllByRecursion AreLow ks → AllByRecursion (λ l. key_cmp k l ≡ Less) ks → AllByRecursion (λ h. head_of k ≤ h) (map head_of ks)
at_least k [] low all above = tt
at_least k (l ∷ ks) low all above = (head_at_most k l low all.0 above.0, at_least k ks low all.1 above.1)

-- heads never fall
heads_rise : (ks : List (List ℕ)) → IsStrictlySortedBy key_cmp ks → AllByRecursion AreLow ks → IsNonDecreasingBy (λ h. h) (map head_of ks)
unfolding IsStrictlySortedBy
heads_rise [] sorted all i j d le lt = absurd (omega arith)
heads_rise (k ∷ ks) sorted all zero zero d le lt = omega arith
heads_rise (k ∷ ks) sorted all zero (suc j) d le lt = All-from_recursion _ (map head_of ks) (at_least k ks all.0 all.1 sorted.0) j d (omega arith)
heads_rise (k ∷ ks) sorted all (suc i) zero d le lt = absurd (omega arith)
heads_rise (k ∷ ks) sorted all (suc i) (suc j) d le lt = heads_rise ks sorted.1 all.1 i j d (omega arith) (omega arith)

-- the keys before a place at which lesser heads end are below
below_place : (key : List ℕ) (ks : List (List ℕ)) (n : ℕ) → AreLow key → AllByRecursion AreLow ks → ((j : ℕ) (d : ℕ) → j < n → j < length ks → get_or (map head_of ks) j d < head_of key) → AreBelow key (take n ks)
below_place key ks zero low all each = tt
below_place key [] (suc n) low all each = tt
below_place key (k ∷ ks) (suc n) low all each =
    (key_turned k key Less (heads_order k key all.0 low (each 0 0 (omega arith) (omega arith))), below_place key ks n low all.1 (λ j d lt within. each (suc j) d (omega (arith, lt)) (omega (arith, within))))

-- where lesser heads end, the keys before are below
module _ (ks : List (List ℕ)) (heads : List ℕ) (low : ℕ) (h : AreHeaded ks heads low) where
  pub heads_parted : (of_key : ℕ) → IsPartitionedBy (λ x. ltb x of_key) heads
  heads_parted of_key = rw h.each (IsPartitionedBy-ltb (λ x. x) (map head_of ks) of_key (heads_rise ks h.in_order h.bytes))

  pub below_heads : (key : List ℕ) (of_key n : ℕ) → AreLow key → of_key ≡ head_of key → IsPartitionPoint (λ x. ltb x of_key ≡ true) (λ x. ltb x of_key ≡ false) heads n → AreBelow key (take n ks)
  below_heads key of_key n bytes is parts = below_place key ks n bytes h.bytes (λ j d lt in_keys.
      let lesser : ltb (get_or (map head_of ks) j d) of_key ≡ true = subst (λ (xs : List ℕ). ltb (get_or xs j d) of_key ≡ true) h.each (parts.0 j d (omega arith) lt) in
      subst (λ m. get_or (map head_of ks) j d < m) is (ltb-true _ _ lesser))

  pub as_many : length heads ≡ length ks
  as_many = ap length h.each ∙ length-map ks head_of

-- ---- what the next key tells

above_later : (key k : List ℕ) (ks : List (List ℕ)) → key_cmp key k ≡ Less → AreAbove k ks → AreAbove key ks
above_later key k [] less above = tt
above_later key k (l ∷ ks) less above = (nat_list_cmp_total.trans key k l less above.0, above_later key k ks less above.1)

above_next : (keys : List (List ℕ)) (at : ℕ) (key k : List ℕ) → IsStrictlySortedBy key_cmp keys → slice_get keys at ≡ Some k → key_cmp key k ≡ Less → AreAbove key (drop at keys)
unfolding IsStrictlySortedBy
above_next [] at key k sorted is less = cc
above_next (x ∷ xs) zero key k sorted is less = let same : x ≡ k = cc in let here : key_cmp key x ≡ Less = subst (λ l. key_cmp key l ≡ Less) (sym same) less in (here, above_later key x xs here sorted.0)
above_next (x ∷ xs) (suc i) key k sorted is less = above_next xs i key k sorted.1 is less

above_none : (keys : List (List ℕ)) (at : ℕ) (key : List ℕ) → slice_get keys at ≡ None → AreAbove key (drop at keys)
above_none [] zero key is = tt
above_none [] (suc i) key is = tt
above_none (x ∷ xs) zero key is = cc
above_none (x ∷ xs) (suc i) key is = above_none xs i key is

pub gap_next : (keys : List (List ℕ)) (at : ℕ) (key k : List ℕ) → IsStrictlySortedBy key_cmp keys → at ≤ length keys → AreBelow key (take at keys) → slice_get keys at ≡ Some k → key_cmp k key ≡ Greater → IsGapAt keys key at
gap_next keys at key k sorted within below is above = record { in_range = within; below = below; above = above_next keys at key k sorted is (key_turned k key Greater above) }

pub gap_end : (keys : List (List ℕ)) (at : ℕ) (key : List ℕ) → at ≤ length keys → AreBelow key (take at keys) → slice_get keys at ≡ None → IsGapAt keys key at
gap_end keys at key within below is = record { in_range = within; below = below; above = above_none keys at key is }

all_short : (from : List ℕ) (strict : Bool) (keys : List (List ℕ)) → AreBelow from keys → AllByRecursion (λ k. reaches from strict k ≡ false) keys
all_short from strict [] below = tt
all_short from strict (k ∷ ks) below = (short strict, all_short from strict ks below.1) where
  short : (strict : Bool) → reaches from strict k ≡ false
  short true = ap is_lt below.0
  short false = ap is_le below.0

pub start_next : (keys : List (List ℕ)) (at : ℕ) (from k : List ℕ) (strict : Bool) → at ≤ length keys → AreBelow from (take at keys) → slice_get keys at ≡ Some k → reaches from strict k ≡ true → IsStartAt keys from strict at
start_next keys at from k strict within below is reached = record { in_range = within; short = all_short from strict (take at keys) below; first = rw is reached }

pub start_end : (keys : List (List ℕ)) (at : ℕ) (from : List ℕ) (strict : Bool) → at ≤ length keys → AreBelow from (take at keys) → slice_get keys at ≡ None → IsStartAt keys from strict at
start_end keys at from strict within below is = record { in_range = within; short = all_short from strict (take at keys) below; first = rw is tt }

-- a key of a lesser head falls short of a bound, and one of a greater head does not
pub short_by_head : (from k : List ℕ) (strict : Bool) → AreLow k → AreLow from → head_of k < head_of from → reaches from strict k ≡ false
short_by_head from k strict low_k low_from less = by_bound strict where
  above : key_cmp from k ≡ Greater
  above = key_turned k from Less (heads_order k from low_k low_from less)

  by_bound : (strict : Bool) → reaches from strict k ≡ false
  by_bound true = ap is_lt above
  by_bound false = ap is_le above

pub reached_by_head : (from k : List ℕ) (strict : Bool) → AreLow k → AreLow from → head_of from < head_of k → reaches from strict k ≡ true
reached_by_head from k strict low_k low_from less = by_bound strict where
  below : key_cmp from k ≡ Less
  below = heads_order from k low_from low_k less

  by_bound : (strict : Bool) → reaches from strict k ≡ true
  by_bound true = ap is_lt below
  by_bound false = ap is_le below

nat_less : (a b : ℕ) → nat_cmp a b ≡ Less → a < b
nat_less a b is = subst (λ o. MatchOrdering o (a < b) (a ≡ b) (b < a)) is (ranks a b)

nat_greater : (a b : ℕ) → nat_cmp a b ≡ Greater → b < a
nat_greater a b is = subst (λ o. MatchOrdering o (a < b) (a ≡ b) (b < a)) is (ranks a b)

module _ (ks : List (List ℕ)) (heads : List ℕ) (low of_from : ℕ) (from : List ℕ) (strict : Bool) (h : AreHeaded ks heads low) (is : of_from ≡ head_of from) (bytes : AreLow from) where
  -- the head of the first key tells whether keys begin short of the bound
  pub begins_below : nat_cmp low of_from ≡ Less → true ≡ not (reaches from strict (first_of ks))
  begins_below less =
      let lesser : head_of (first_of ks) < head_of from = rw (← h.first, ← is) (nat_less low of_from less) in
      rw (short_by_head from (first_of ks) strict (first_low ks h.bytes) bytes lesser) refl

  pub begins_above : nat_cmp low of_from ≡ Greater → false ≡ not (reaches from strict (first_of ks))
  begins_above greater =
      let more : head_of from < head_of (first_of ks) = rw (← h.first, ← is) (nat_greater low of_from greater) in
      rw (reached_by_head from (first_of ks) strict (first_low ks h.bytes) bytes more) refl

-- ---- what an edit leaves

all_insert : {X : Type 0} (P : X → Type 0) (xs : List X) (i : ℕ) (y : X) → AllByRecursion P xs → P y → AllByRecursion P (insert xs i y)
all_insert P xs zero y all here = (here, all)
all_insert P [] (suc i) y all here = (here, tt)
all_insert P (x ∷ xs) (suc i) y all here = (all.0, all_insert P xs i y all.1 here)

all_remove : {X : Type 0} (P : X → Type 0) (xs : List X) (i : ℕ) → AllByRecursion P xs → AllByRecursion P (remove xs i)
all_remove P [] zero all = tt
all_remove P [] (suc i) all = tt
all_remove P (x ∷ xs) zero all = all.1
all_remove P (x ∷ xs) (suc i) all = (all.0, all_remove P xs i all.1)

all_take : {X : Type 0} (P : X → Type 0) (n : ℕ) (xs : List X) → AllByRecursion P xs → AllByRecursion P (take n xs)
all_take P zero xs all = tt
all_take P (suc n) [] all = tt
all_take P (suc n) (x ∷ xs) all = (all.0, all_take P n xs all.1)

all_drop : {X : Type 0} (P : X → Type 0) (n : ℕ) (xs : List X) → AllByRecursion P xs → AllByRecursion P (drop n xs)
all_drop P zero xs all = all
all_drop P (suc n) [] all = tt
all_drop P (suc n) (x ∷ xs) all = all_drop P n xs all.1

map_insert : (ks : List (List ℕ)) (i : ℕ) (key : List ℕ) → insert (map head_of ks) i (head_of key) ≡ map head_of (insert ks i key)
map_insert ks zero key = refl
map_insert [] (suc i) key = refl
map_insert (k ∷ ks) (suc i) key = ap (λ hs. head_of k ∷ hs) (map_insert ks i key)

map_remove : (ks : List (List ℕ)) (i : ℕ) → remove (map head_of ks) i ≡ map head_of (remove ks i)
map_remove [] zero = refl
map_remove [] (suc i) = refl
map_remove (k ∷ ks) zero = refl
map_remove (k ∷ ks) (suc i) = ap (λ hs. head_of k ∷ hs) (map_remove ks i)

map_take : (n : ℕ) (ks : List (List ℕ)) → take n (map head_of ks) ≡ map head_of (take n ks)
map_take zero ks = refl
map_take (suc n) [] = refl
map_take (suc n) (k ∷ ks) = ap (λ hs. head_of k ∷ hs) (map_take n ks)

map_drop : (n : ℕ) (ks : List (List ℕ)) → drop n (map head_of ks) ≡ map head_of (drop n ks)
map_drop zero ks = refl
map_drop (suc n) [] = refl
map_drop (suc n) (k ∷ ks) = map_drop n ks

-- keys with their heads, and the first of the heads
pub headed : (ks : List (List ℕ)) (heads : List ℕ) (low : ℕ) → IsStrictlySortedBy key_cmp ks → AllByRecursion AreLow ks → heads ≡ map head_of ks → low ≡ low_of heads → AreHeaded ks heads low
headed ks heads low sorted bytes each first = record { in_order = sorted; bytes = bytes; each = each; first = first ∙ ap low_of each ∙ low_is ks }

module _ (ks : List (List ℕ)) (heads : List ℕ) (low : ℕ) (h : AreHeaded ks heads low) where
  pub headed_insert : (i : ℕ) (key : List ℕ) (first : ℕ) → IsGapAt ks key i → AreLow key → first ≡ low_of (insert heads i (head_of key)) → AreHeaded (insert ks i key) (insert heads i (head_of key)) first
  headed_insert i key first gap bytes is = headed (insert ks i key) (insert heads i (head_of key)) first (in_order-insert ks i key h.in_order gap) (all_insert AreLow ks i key h.bytes bytes) (ap (λ hs. insert hs i (head_of key)) h.each ∙ map_insert ks i key) is

  pub headed_remove : (i first : ℕ) → first ≡ low_of (remove heads i) → AreHeaded (remove ks i) (remove heads i) first
  headed_remove i first is = headed (remove ks i) (remove heads i) first (in_order-remove ks i h.in_order) (all_remove AreLow ks i h.bytes) (ap (λ hs. remove hs i) h.each ∙ map_remove ks i) is

  pub headed_take : (n first : ℕ) → first ≡ low_of (take n heads) → AreHeaded (take n ks) (take n heads) first
  headed_take n first is = headed (take n ks) (take n heads) first (in_order-take n ks h.in_order) (all_take AreLow n ks h.bytes) (ap (take n) h.each ∙ map_take n ks) is

  pub headed_drop : (n first : ℕ) → first ≡ low_of (drop n heads) → AreHeaded (drop n ks) (drop n heads) first
  headed_drop n first is = headed (drop n ks) (drop n heads) first (in_order-drop n ks h.in_order) (all_drop AreLow n ks h.bytes) (ap (drop n) h.each ∙ map_drop n ks) is

-- one key alone
pub headed_one : (key : List ℕ) (low : ℕ) → AreLow key → low ≡ head_of key → AreHeaded (key ∷ []) (low ∷ []) low
unfolding IsStrictlySortedBy
headed_one key low bytes is = record { in_order = (tt, tt); bytes = (bytes, tt); each = ap (λ h. h ∷ []) is; first = is }

-- ---- how the head of bytes is read

-- eight bytes or more
pub padded_long : (n : ℕ) (xs : List ℕ) → n ≤ length xs → padded n xs ≡ take n xs
padded_long zero xs long = refl
padded_long (suc n) [] long = absurd (omega (arith, long))
padded_long (suc n) (x ∷ xs) long = ap (λ l. x ∷ l) (padded_long n xs (omega (arith, long)))

-- byte by byte
pub padded_each : (xs : List ℕ) → padded 8 xs ≡ get_or xs 0 0 ∷ get_or xs 1 0 ∷ get_or xs 2 0 ∷ get_or xs 3 0 ∷ get_or xs 4 0 ∷ get_or xs 5 0 ∷ get_or xs 6 0 ∷ get_or xs 7 0 ∷ []
padded_each [] = refl
padded_each (a ∷ []) = refl
padded_each (a ∷ b ∷ []) = refl
padded_each (a ∷ b ∷ c ∷ []) = refl
padded_each (a ∷ b ∷ c ∷ d ∷ []) = refl
padded_each (a ∷ b ∷ c ∷ d ∷ e ∷ []) = refl
padded_each (a ∷ b ∷ c ∷ d ∷ e ∷ f ∷ []) = refl
padded_each (a ∷ b ∷ c ∷ d ∷ e ∷ f ∷ g ∷ []) = refl
padded_each (a ∷ b ∷ c ∷ d ∷ e ∷ f ∷ g ∷ h ∷ xs) = refl
