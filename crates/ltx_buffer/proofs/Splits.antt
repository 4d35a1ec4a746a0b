-- Where the writes of keys below one end, and the writes of a range of a table.
use Rattle.std.proofs.Common.{◌≡◌, ℕ, zero, suc, ◌+◌, ◌<◌, ◌≤◌, Bool, true, false, cond, not, ◌&&◌, ◌==◌, List, [], ◌∷◌, length, take, drop, get_or, filter, refl, sym, ap, subst, ◌∙◌, arith}
use Rattle.std.specs.List.{AllWithin, AllByRecursion}
use Rattle.std.specs.List.Sorted.{IsPartitionedBy, IsPartitionPoint}
use Rattle.std.specs.Ordering.{nat_cmp, is_lt, is_le, is_eq, ordering_then, ordering_reverse}
use Rattle.std.specs.declared.cmp.Ordering.{Ordering}
use Rattle.std.specs.declared.cmp.Ordering.TheVariants.{Less, Equal, Greater}
use Rattle.std.proofs.lemmas.List.Elements.{All-from_recursion}
use Rattle.std.specs.Cmp.{ranked, nat_cmp_is, unsigned_tied}
use Rattle.std.proofs.lemmas.Cmp.{nat_list_cmp_total}
use Rattle.ltx_model.specs.declared.writes.Write.{Write}
use Rattle.ltx_model.specs.Keys.{Cell, key_cmp, cell_cmp, in_range, AreAbove, IsRising}
use Rattle.ltx_model.specs.Operations.{cell_of_write}
use Rattle.ltx_buffer.specs.Own.{is_between}
use Rattle.ltx_buffer.specs.Places.{IsSplitAt, is_below, end_of, key_in}
use Rattle.ltx_model.proofs.CellOrder.{cell_total}
use Rattle.ltx_model.proofs.Rising.{rising_filter}
use Rattle.ltx_model.proofs.Orderings.{is_less, is_equal, then_not_less, number_below}
use Rattle.ltx_model.proofs.KeyOrder.{none_below, key_at_most}

-- what stands before a write below the key is below it too
before_below : (cell : Cell) (x y : Write) → cell_cmp (cell_of_write x) (cell_of_write y) ≡ Less → is_below cell y ≡ true → is_below cell x ≡ true
before_below cell x y less below = ap is_lt (cell_total.trans (cell_of_write x) (cell_of_write y) cell less (is_less (cell_cmp (cell_of_write y) cell) below))

pub parted : (cell : Cell) (xs : List Write) → IsRising cell_of_write xs → IsPartitionedBy (is_below cell) xs
parted cell [] rising i j d le lt e = absurd (omega arith)
parted cell (x ∷ xs) rising zero zero d le lt e = e
parted cell (x ∷ xs) rising zero (suc j) d le lt e = before_below cell x (get_or xs j d) (All-from_recursion _ xs rising.0 j d (omega arith)) e
parted cell (x ∷ xs) rising (suc i) zero d le lt e = absurd (omega arith)
parted cell (x ∷ xs) rising (suc i) (suc j) d le lt e = parted cell xs rising.1 i j d (omega arith) (omega arith) e

-- where the items that pass a test end before those that fail it
take-filter : {A : Type 0} (p : A → Bool) (xs : List A) (n : ℕ) → n ≤ length xs → AllWithin (λ y. p y ≡ true) xs 0 n → AllWithin (λ y. p y ≡ false) xs n (length xs) → take n xs ≡ filter p xs
take-filter p [] zero le pass fail = refl
take-filter p [] (suc n) le pass fail = refl
take-filter p (x ∷ xs) zero le pass fail =
    rw (fail 0 x (omega arith) (omega arith)) (take-filter p xs zero (omega arith) (λ k d a b. absurd (omega arith)) (λ k d a b. fail (suc k) d (omega arith) (omega arith)))
take-filter p (x ∷ xs) (suc n) le pass fail =
    rw (pass 0 x (omega arith) (omega arith)) (ap (λ ys. x ∷ ys) (take-filter p xs n (omega arith) (λ k d a b. pass (suc k) d (omega arith) (omega arith)) (λ k d a b. fail (suc k) d (omega arith) (omega arith))))

drop-filter : {A : Type 0} (p : A → Bool) (xs : List A) (n : ℕ) → n ≤ length xs → AllWithin (λ y. p y ≡ true) xs 0 n → AllWithin (λ y. p y ≡ false) xs n (length xs) → drop n xs ≡ filter (λ y. not (p y)) xs
drop-filter p [] zero le pass fail = refl
drop-filter p [] (suc n) le pass fail = refl
drop-filter p (x ∷ xs) zero le pass fail =
    rw (fail 0 x (omega arith) (omega arith)) (ap (λ ys. x ∷ ys) (drop-filter p xs zero (omega arith) (λ k d a b. absurd (omega arith)) (λ k d a b. fail (suc k) d (omega arith) (omega arith))))
drop-filter p (x ∷ xs) (suc n) le pass fail =
    rw (pass 0 x (omega arith) (omega arith)) (drop-filter p xs n (omega arith) (λ k d a b. pass (suc k) d (omega arith) (omega arith)) (λ k d a b. fail (suc k) d (omega arith) (omega arith)))

pub split : (cell : Cell) (xs : List Write) (n : ℕ) → n ≤ length xs → IsPartitionPoint (λ y. is_below cell y ≡ true) (λ y. is_below cell y ≡ false) xs n → IsSplitAt cell xs n
split cell xs n le point = record {
  within = le;
  below = take-filter (is_below cell) xs n le point.0 point.1;
  above = drop-filter (is_below cell) xs n le point.0 point.1;
}

filter_twice : {A : Type 0} (p q r : A → Bool) → ((x : A) → r x ≡ (q x && p x)) → (xs : List A) → filter p (filter q xs) ≡ filter r xs
filter_twice p q r each [] = refl
filter_twice p q r each (x ∷ xs) = rw (each x) (by_tests (q x) (p x) refl (filter_twice p q r each xs)) where
  by_tests : (b d : Bool) → p x ≡ d → filter p (filter q xs) ≡ filter r xs → filter p (cond b (x ∷ filter q xs) (filter q xs)) ≡ cond (b && d) (x ∷ filter r xs) (filter r xs)
  by_tests true true is rest = rw is (ap (λ ys. x ∷ ys) rest)
  by_tests true false is rest = rw is rest
  by_tests false d is rest = rest

nat_same : (a b : ℕ) (o : Ordering) → nat_cmp a b ≡ o → (a == b) ≡ is_eq o
nat_same a b o e = sym (unsigned_tied a b) ∙ ap is_eq e

-- a number at the next one or behind it
behind : (a b : ℕ) → nat_cmp a b ≡ Greater → is_lt (nat_cmp a (b + 1)) ≡ false
behind a b e = by_cmp (nat_cmp a (b + 1)) refl where
  more : b < a
  more = ranked a b Greater (sym e)

  by_cmp : (o : Ordering) → nat_cmp a (b + 1) ≡ o → is_lt o ≡ false
  by_cmp Less is = absurd (let less : a < b + 1 = ranked a (b + 1) Less (sym is) in omega (arith, less, more))
  by_cmp Equal is = refl
  by_cmp Greater is = refl

-- a range is what is not below its low end, and is below its end
pub range_is : (table : ℕ) (low high : List ℕ) (w : Write) → is_between table low high w ≡ (not (is_below (record { table = table; key = low }) w) && is_below (end_of table high) w)
range_is table low high w = by_cmp (nat_cmp w.table table) refl high where
  tables : (o : Ordering) → nat_cmp w.table table ≡ o → (high : List ℕ) → is_between table low high w ≡ (is_eq o && in_range low high w.key)
  tables o e high = ap (λ b. b && in_range low high w.key) (nat_same w.table table o e)

  by_cmp : (o : Ordering) → nat_cmp w.table table ≡ o → (high : List ℕ) → is_between table low high w ≡ (not (is_below (record { table = table; key = low }) w) && is_below (end_of table high) w)
  by_cmp Less e high = tables Less e high ∙ sym (ap (λ o. not (is_lt (ordering_then o (key_cmp w.key low))) && is_below (end_of table high) w) e)
  by_cmp Equal e [] =
      let same : w.table ≡ table = ranked w.table table Equal (sym e) in
      let next : nat_cmp w.table (table + 1) ≡ Less = number_below w.table (table + 1) (omega (arith, same)) in
      tables Equal e [] ∙ ap (λ b. b && true) (key_at_most low w.key)
      ∙ sym (ap (λ o. not (is_lt (key_cmp w.key low)) && is_lt (ordering_then o (key_cmp w.key []))) next)
      ∙ sym (ap (λ o. not (is_lt (ordering_then o (key_cmp w.key low))) && is_lt (ordering_then (nat_cmp w.table (table + 1)) (key_cmp w.key []))) e)
  by_cmp Equal e (h ∷ hs) =
      tables Equal e (h ∷ hs) ∙ ap (λ b. b && is_lt (key_cmp w.key (h ∷ hs))) (key_at_most low w.key)
      ∙ sym (ap (λ o. not (is_lt (ordering_then o (key_cmp w.key low))) && is_lt (ordering_then o (key_cmp w.key (h ∷ hs)))) e)
  by_cmp Greater e [] =
      tables Greater e [] ∙ sym (then_not_less (nat_cmp w.table (table + 1)) (key_cmp w.key []) (behind w.table table e) (none_below w.key))
      ∙ sym (ap (λ o. not (is_lt (ordering_then o (key_cmp w.key low))) && is_lt (ordering_then (nat_cmp w.table (table + 1)) (key_cmp w.key []))) e)
  by_cmp Greater e (h ∷ hs) =
      tables Greater e (h ∷ hs) ∙ sym (ap (λ o. not (is_lt (ordering_then o (key_cmp w.key low))) && is_lt (ordering_then o (key_cmp w.key (h ∷ hs)))) e)

-- all writes of a range are of its table
pub between_table : (table : ℕ) (low high : List ℕ) (xs : List Write) → AllByRecursion (λ w. w.table ≡ table) (filter (is_between table low high) xs)
between_table table low high [] = tt
between_table table low high (x ∷ xs) = by_test (x.table == table) refl (in_range low high x.key) (between_table table low high xs) where
  by_test : (b : Bool) → (x.table == table) ≡ b → (d : Bool) → AllByRecursion (λ w. w.table ≡ table) (filter (is_between table low high) xs)
      → AllByRecursion (λ w. w.table ≡ table) (cond (b && d) (x ∷ filter (is_between table low high) xs) (filter (is_between table low high) xs))
  by_test true e true rest = (ranked x.table table Equal (sym (is_equal (nat_cmp x.table table) (unsigned_tied x.table table ∙ e))), rest)
  by_test true e false rest = rest
  by_test false e d rest = rest

-- writes of one table in order of table and key rise by their keys
above_in_table : (table : ℕ) (w : Write) (xs : List Write) → w.table ≡ table → AllByRecursion (λ x. x.table ≡ table) xs → AreAbove cell_of_write (cell_of_write w) xs → AreAbove (key_in table) (key_in table w) xs
above_in_table table w [] same all above = tt
above_in_table table w (x ∷ xs) same all above = (
  subst (λ t. cell_cmp (key_in t w) (key_in table x) ≡ Less) same (subst (λ t. cell_cmp (cell_of_write w) (key_in t x) ≡ Less) all.0 above.0),
  above_in_table table w xs same all.1 above.1,
)

rising_in_table : (table : ℕ) (xs : List Write) → AllByRecursion (λ x. x.table ≡ table) xs → IsRising cell_of_write xs → IsRising (key_in table) xs
rising_in_table table [] all rising = tt
rising_in_table table (x ∷ xs) all rising = (above_in_table table x xs all.0 all.1 rising.0, rising_in_table table xs all.1 rising.1)

pub rising_between : (table : ℕ) (low high : List ℕ) (xs : List Write) → IsRising cell_of_write xs → IsRising (key_in table) (filter (is_between table low high) xs)
rising_between table low high xs rising = rising_in_table table (filter (is_between table low high) xs) (between_table table low high xs) (rising_filter cell_of_write (is_between table low high) xs rising)

-- the writes of a range
pub between_is : (table : ℕ) (low high : List ℕ) (xs : List Write) (n m : ℕ) → IsSplitAt (record { table = table; key = low }) xs n → IsSplitAt (end_of table high) (drop n xs) m → take m (drop n xs) ≡ filter (is_between table low high) xs
between_is table low high xs n m first second =
    second.below ∙ ap (filter (is_below (end_of table high))) first.above
    ∙ filter_twice (is_below (end_of table high)) (λ w. not (is_below (record { table = table; key = low }) w)) (is_between table low high) (range_is table low high) xs

pub rising_rest : (cell : Cell) (xs : List Write) (n : ℕ) → IsRising cell_of_write xs → IsSplitAt cell xs n → IsRising cell_of_write (drop n xs)
rising_rest cell xs n rising at = subst (IsRising cell_of_write) (sym at.above) (rising_filter cell_of_write (λ w. not (is_below cell w)) xs rising)
