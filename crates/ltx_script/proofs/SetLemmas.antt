-- Sets of tables against the tables that they hold.
use Rattle.std.proofs.Common.{◌≡◌, ◌≢◌, ℕ, zero, suc, ◌+◌, ◌^◌, ◌<◌, ◌≤◌, Bool, true, false, cond, List, [], ◌∷◌, ◌++◌, filter, map, Some, None, refl, sym, ap, subst, ◌∙◌, append_assoc, append-nil, arith, inl, inr}
use Rattle.std.specs.List.{range_with_len}
use Rattle.std.proofs.lemmas.Bool.{cases_Bool, cases_lt}
use Rattle.std.proofs.lemmas.Nat.{or_lt}
use Rattle.std.proofs.Math.Pow.{pow-lt}
use Rattle.std.proofs.lemmas.Nat.Bits.{bit_at_or, bit_at-lt, bit_at-zero, bit_at-pow_same, bit_at-pow_other}
use Rattle.ltx_model.specs.Tables.{has_table, with_table, no_tables}
use Rattle.ltx_model.proofs.TableSets.{has-by-bit, lacks-by-bit, bit-by-has, bit-by-lacks, same_by_members}
use Rattle.ltx_text.specs.Decimals.{decimal_of, number_in}
use Rattle.ltx_script.specs.Commands.{tables_of}
use Rattle.ltx_script.specs.Rising.{IsRisingFrom}
use Rattle.ltx_text.proofs.Numbers.{number_is, number_some}

-- ---- one table more

with_same : (set table : ℕ) → has_table (with_table set table) table ≡ true
with_same set table = has-by-bit (with_table set table) table (omega (arith, bit_at_or set (2 ^ table) table, bit_at-pow_same table, bit_at-lt set table))

with_other : (set table k : ℕ) → k ≢ table → has_table (with_table set table) k ≡ has_table set k
with_other set table k other = elim (cases_Bool (has_table set k)) [
  | inl e1 ↦ has-by-bit (with_table set table) k (omega (arith, bit_at_or set (2 ^ table) k, bit_at-pow_other table k other, bit-by-has set k e1)) ∙ sym e1
  | inr e0 ↦ lacks-by-bit (with_table set table) k (omega (arith, bit_at_or set (2 ^ table) k, bit_at-pow_other table k other, bit-by-lacks set k e0)) ∙ sym e0
]

pub with_fits : (set table : ℕ) → set < 2 ^ 64 → table < 64 → with_table set table < 2 ^ 64
with_fits set table fits low = or_lt 64 set (2 ^ table) fits (pow-lt low)

-- no table from a number on is in the set
abbrev pub NoneFrom : ℕ → ℕ → Type 0
NoneFrom set least = (k : ℕ) → least ≤ k → has_table set k ≡ false

filter_congr : (p q : ℕ → Bool) (a n : ℕ) → ((k : ℕ) → a ≤ k → k < a + n → p k ≡ q k) → filter p (range_with_len a n) ≡ filter q (range_with_len a n)
filter_congr p q a zero same = refl
filter_congr p q a (suc n) same =
    ap (λ b. cond b (a ∷ filter p (range_with_len (a + 1) n)) (filter p (range_with_len (a + 1) n))) (same a (omega arith) (omega arith))
    ∙ ap (λ l. cond (q a) (a ∷ l) l) (filter_congr p q (a + 1) n (λ k low high. same k (omega (arith, low)) (omega (arith, high))))

filter_empty : (p : ℕ → Bool) (a n : ℕ) → ((k : ℕ) → a ≤ k → p k ≡ false) → filter p (range_with_len a n) ≡ []
filter_empty p a zero none = refl
filter_empty p a (suc n) none = rw (none a (omega arith)) (filter_empty p (a + 1) n (λ k low. none k (omega (arith, low))))

-- a table behind those of the set stands at the end
filter_with : (set table a n : ℕ) → a ≤ table → table < a + n → NoneFrom set table
    → filter (has_table (with_table set table)) (range_with_len a n) ≡ filter (has_table set) (range_with_len a n) ++ table ∷ []
filter_with set table a zero above low none = absurd (omega (arith, above, low))
filter_with set table a (suc n) above low none = elim (cases_lt a table) [
  | inl lt ↦
      ap (λ b. cond b (a ∷ filter (has_table (with_table set table)) (range_with_len (a + 1) n)) (filter (has_table (with_table set table)) (range_with_len (a + 1) n))) (with_other set table a (omega (arith, lt)))
      ∙ by (has_table set a) (filter_with set table (a + 1) n (omega (arith, lt)) (omega (arith, low)) none)
  | inr le ↦
      let at : a ≡ table = omega (arith, above, le) in
      let here : has_table (with_table set table) a ≡ true = ap (has_table (with_table set table)) at ∙ with_same set table in
      let lacks : has_table set a ≡ false = none a (omega (arith, at)) in
      let others : filter (has_table (with_table set table)) (range_with_len (a + 1) n) ≡ []
      = filter_empty (has_table (with_table set table)) (a + 1) n (λ k beyond. with_other set table k (omega (arith, at, beyond)) ∙ none k (omega (arith, at, beyond))) in
      let before : filter (has_table set) (range_with_len (a + 1) n) ≡ [] = filter_empty (has_table set) (a + 1) n (λ k beyond. none k (omega (arith, at, beyond))) in
      rw (here, lacks, others, before) (ap (λ k. k ∷ []) at)
]
  where
    by : (b : Bool) → filter (has_table (with_table set table)) (range_with_len (a + 1) n) ≡ filter (has_table set) (range_with_len (a + 1) n) ++ table ∷ []
        → cond b (a ∷ filter (has_table (with_table set table)) (range_with_len (a + 1) n)) (filter (has_table (with_table set table)) (range_with_len (a + 1) n))
        ≡ cond b (a ∷ filter (has_table set) (range_with_len (a + 1) n)) (filter (has_table set) (range_with_len (a + 1) n)) ++ table ∷ []
    by true e = ap (λ l. a ∷ l) e
    by false e = e

pub tables_with : (set table : ℕ) → table < 64 → NoneFrom set table → tables_of (with_table set table) ≡ tables_of set ++ table ∷ []
unfolding tables_of
tables_with set table low none = filter_with set table 0 64 (omega arith) low none

pub none_with : (set table : ℕ) → NoneFrom set table → NoneFrom (with_table set table) (table + 1)
none_with set table none = λ k beyond. with_other set table k (omega (arith, beyond)) ∙ none k (omega (arith, beyond))

pub none_in_none : (least : ℕ) → NoneFrom no_tables least
none_in_none least = λ k beyond. lacks-by-bit 0 k (bit_at-zero k)

pub none_from_more : (set least more : ℕ) → least ≤ more → NoneFrom set least → NoneFrom set more
none_from_more set least more beyond none = λ k from. none k (omega (arith, beyond, from))

-- ---- the tables of a set rise, and say which set it is

filter_rises : (p : ℕ → Bool) (a n : ℕ) → a + n ≤ 64 → IsRisingFrom a (filter p (range_with_len a n))
filter_rises p a zero within = tt
filter_rises p a (suc n) within = by (p a) (filter_rises p (a + 1) n (omega (arith, within)))
  where
    lower : (least : ℕ) (ts : List ℕ) → IsRisingFrom (least + 1) ts → IsRisingFrom least ts
    lower least [] rising = tt
    lower least (t ∷ ts) rising = (omega (arith, rising.0), rising.1, rising.2)

    by : (b : Bool) → IsRisingFrom (a + 1) (filter p (range_with_len (a + 1) n)) → IsRisingFrom a (cond b (a ∷ filter p (range_with_len (a + 1) n)) (filter p (range_with_len (a + 1) n)))
    by true rest = (omega arith, omega (arith, within), rest)
    by false rest = lower a (filter p (range_with_len (a + 1) n)) rest

pub tables_rise : (set : ℕ) → IsRisingFrom 0 (tables_of set)
unfolding tables_of
tables_rise set = filter_rises (has_table set) 0 64 (omega arith)

no_head : (a : ℕ) (xs ys : List ℕ) → IsRisingFrom (a + 1) ys → a ∷ xs ≡ ys → ⊥
no_head a xs [] rising e = absurd cc
no_head a xs (y ∷ ys) rising e = let at : a ≡ y = cc in omega (arith, at, rising.0)

by_heads : (a : ℕ) (b c : Bool) (ps qs : List ℕ) → IsRisingFrom (a + 1) ps → IsRisingFrom (a + 1) qs → cond b (a ∷ ps) ps ≡ cond c (a ∷ qs) qs → (b ≡ c) × (ps ≡ qs)
by_heads a true true ps qs of_p of_q e = (refl, cc)
by_heads a true false ps qs of_p of_q e = absurd (no_head a ps qs of_q e)
by_heads a false true ps qs of_p of_q e = absurd (no_head a qs ps of_p (sym e))
by_heads a false false ps qs of_p of_q e = (refl, e)

same_tests : (p q : ℕ → Bool) (a n : ℕ) → a + n ≤ 64 → filter p (range_with_len a n) ≡ filter q (range_with_len a n) → (k : ℕ) → a ≤ k → k < a + n → p k ≡ q k
same_tests p q a zero within e k low high = absurd (omega (arith, low, high))
same_tests p q a (suc n) within e k low high =
    let rises = filter_rises p (a + 1) n (omega (arith, within)) in
    let others = filter_rises q (a + 1) n (omega (arith, within)) in
    let both = by_heads a (p a) (q a) (filter p (range_with_len (a + 1) n)) (filter q (range_with_len (a + 1) n)) rises others e in
    elim (cases_lt a k) [
      | inl lt ↦ same_tests p q (a + 1) n (omega (arith, within)) both.1 k (omega (arith, lt)) (omega (arith, high))
      | inr le ↦ let at : k ≡ a = omega (arith, low, le) in ap p at ∙ both.0 ∙ sym (ap q at)
    ]

pub same_tables : (a b : ℕ) → a < 2 ^ 64 → b < 2 ^ 64 → tables_of a ≡ tables_of b → a ≡ b
unfolding tables_of
same_tables a b first second e = same_by_members a b first second (λ k low. same_tests (has_table a) (has_table b) 0 64 (omega arith) e k (omega arith) low)

-- ---- reading named tables, one after the other

map_one_more : (ts : List ℕ) (t : ℕ) → map decimal_of (ts ++ t ∷ []) ≡ map decimal_of ts ++ decimal_of t ∷ []
map_one_more [] t = refl
map_one_more (x ∷ ts) t = ap (λ l. decimal_of x ∷ l) (map_one_more ts t)

-- the tables so far and the parts that are left
pub read_more : (whole parts rest : List (List ℕ)) (word : List ℕ) (set table : ℕ) → NoneFrom set table → number_in 0 64 word ≡ Some table
    → whole ≡ map decimal_of (tables_of set) ++ parts → parts ≡ word ∷ rest → whole ≡ map decimal_of (tables_of (with_table set table)) ++ rest
read_more whole parts rest word set table none found so_far next =
    let n = number_is word 0 64 table found in
    so_far ∙ ap (λ l. map decimal_of (tables_of set) ++ l) (next ∙ ap (λ w. w ∷ rest) n.is)
    ∙ sym (append_assoc (map decimal_of (tables_of set)) (decimal_of table ∷ []) rest)
    ∙ ap (λ l. l ++ rest) (sym (map_one_more (tables_of set) table) ∙ ap (map decimal_of) (sym (tables_with set table (omega (arith, n.high)) none)))

-- the parts are the decimals of strictly rising tables, none below the first number
pub record Named (least : ℕ) (parts : List (List ℕ)) : Type 0 where
  pub tables : List ℕ
  pub rising : IsRisingFrom least tables
  pub are : parts ≡ map decimal_of tables

-- a part that names no table names none of rising tables
pub stop_none : (least : ℕ) (parts rest : List (List ℕ)) (word : List ℕ) → number_in 0 64 word ≡ None → parts ≡ word ∷ rest → Named least parts → ⊥
stop_none least parts rest word none next named = go named.tables named.rising (sym next ∙ named.are)
  where
    go : (ts : List ℕ) → IsRisingFrom least ts → word ∷ rest ≡ map decimal_of ts → ⊥
    go [] rising e = absurd cc
    go (t ∷ ts) rising e =
        let at : word ≡ decimal_of t = cc in
        let found = number_some word 0 64 t (omega arith) (omega (arith, rising.1)) (omega arith) at in
        let no_one : None ≡ Some t = sym none ∙ found in
        absurd cc

-- what comes behind the first table, and that it is not below the first number
pub record NamedNext (least : ℕ) (rest : List (List ℕ)) (table : ℕ) : Type 0 where
  pub low : least ≤ table
  pub more : Named (table + 1) rest

pub named_next : (least : ℕ) (parts rest : List (List ℕ)) (word : List ℕ) (table : ℕ) → number_in 0 64 word ≡ Some table → parts ≡ word ∷ rest → Named least parts → NamedNext least rest table
named_next least parts rest word table found next named = go named.tables named.rising (sym next ∙ named.are)
  where
    go : (ts : List ℕ) → IsRisingFrom least ts → word ∷ rest ≡ map decimal_of ts → NamedNext least rest table
    go [] rising e = absurd cc
    go (t ∷ ts) rising e =
        let is : word ≡ decimal_of t = cc in
        let again = number_some word 0 64 t (omega arith) (omega (arith, rising.1)) (omega arith) is in
        let one : Some table ≡ Some t = sym found ∙ again in
        let at : table ≡ t = cc in
        let behind : rest ≡ map decimal_of ts = cc in
        record { low = omega (arith, at, rising.0); more = record { tables = ts; rising = subst (λ k. IsRisingFrom (k + 1) ts) (sym at) rising.2; are = behind } }

pub none_so_far : tables_of no_tables ≡ []
unfolding tables_of
none_so_far = filter_empty (has_table no_tables) 0 64 (none_in_none 0)

-- the whole of the parts is the set with the table that came last
pub read_last : (whole parts : List (List ℕ)) (word : List ℕ) (set table : ℕ) → NoneFrom set table → number_in 0 64 word ≡ Some table
    → whole ≡ map decimal_of (tables_of set) ++ parts → parts ≡ word ∷ [] → whole ≡ map decimal_of (tables_of (with_table set table))
read_last whole parts word set table none found so_far next = read_more whole parts [] word set table none found so_far next ∙ append-nil (map decimal_of (tables_of (with_table set table)))
