-- Sets of tables by the bits of their numbers.
use Rattle.std.proofs.Common.{◌≡◌, ℕ, zero, suc, ◌<◌, ◌*◌, ◌^◌, ◌==◌, Bool, true, false, not, bit_and, refl, sym, ap, ◌∙◌, arith, w64}
use Rattle.std.specs.Int.{bit_at, trailing_zeros}
use Rattle.std.proofs.lemmas.Nat.{pow_pos, and_le_l}
use Rattle.std.proofs.lemmas.Nat.Bits.{and_pow, bit_at_and, bit_at-zero, bit_at_ones, bit_at-lt, bit_at-trailing_zeros, same_from_bits_below}
use Rattle.ltx_model.specs.Tables.{has_table, meet, all_tables, CommonTable, IsLeastTable}

positive_is : (n : ℕ) → 0 < n → not (n == 0) ≡ true
positive_is n some = grind arith

is_positive : (n : ℕ) → not (n == 0) ≡ true → 0 < n
is_positive n e = grind arith

zero_is : (n : ℕ) → n ≡ 0 → not (n == 0) ≡ false
zero_is n e = grind arith

-- a table is in a set exactly where its bit is 1
pub has-by-bit : (set table : ℕ) → bit_at set table ≡ 1 → has_table set table ≡ true
has-by-bit set table one =
    let mask : bit_and set (2 ^ table) ≡ 1 * 2 ^ table = and_pow set table ∙ ap (λ d. d * 2 ^ table) one in
    positive_is (bit_and set (2 ^ table)) (omega (arith, mask, pow_pos table))

pub lacks-by-bit : (set table : ℕ) → bit_at set table ≡ 0 → has_table set table ≡ false
lacks-by-bit set table none =
    let mask : bit_and set (2 ^ table) ≡ 0 * 2 ^ table = and_pow set table ∙ ap (λ d. d * 2 ^ table) none in
    zero_is (bit_and set (2 ^ table)) (omega (arith, mask))

bit_by : (set table d : ℕ) → bit_at set table ≡ d → d < 2 → has_table set table ≡ true → bit_at set table ≡ 1
bit_by set table zero is below e = absurd (let other = lacks-by-bit set table is in let no : ⊥ = cc in no)
bit_by set table (suc d) is below e = omega arith

pub bit-by-has : (set table : ℕ) → has_table set table ≡ true → bit_at set table ≡ 1
bit-by-has set table = bit_by set table (bit_at set table) refl (bit_at-lt set table)

clear_by : (set table d : ℕ) → bit_at set table ≡ d → d < 2 → has_table set table ≡ false → bit_at set table ≡ 0
clear_by set table zero is below e = is
clear_by set table (suc d) is below e = absurd (let other = has-by-bit set table (omega (arith, is)) in let no : ⊥ = cc in no)

pub bit-by-lacks : (set table : ℕ) → has_table set table ≡ false → bit_at set table ≡ 0
bit-by-lacks set table = clear_by set table (bit_at set table) refl (bit_at-lt set table)

-- all tables are in the set of all
pub all_has : (table : ℕ) → table < 64 → has_table all_tables table ≡ true
all_has table within = has-by-bit all_tables table (bit_at_ones 64 table within)

-- the place of the lowest bit is the least table
pub least_is : (set : ℕ) → 0 < set → set < 2 ^ 64 → IsLeastTable set (trailing_zeros w64 set)
least_is set some fits =
    let lowest = bit_at-trailing_zeros w64 set some fits in
    record {
      within = lowest.0;
      member = has-by-bit set (trailing_zeros w64 set) lowest.1;
      least = λ other below. lacks-by-bit set other (lowest.2 other below);
    }

both : (a b table : ℕ) → bit_at (bit_and a b) table ≡ 1 → (bit_at a table ≡ 1) × (bit_at b table ≡ 1)
both a b table one = (
  omega (arith, one, bit_at_and a b table, bit_at-lt a table, bit_at-lt b table),
  omega (arith, one, bit_at_and a b table, bit_at-lt a table, bit_at-lt b table),
)

-- sets that meet have a table in common
pub meet-common : (a b : ℕ) → a < 2 ^ 64 → meet a b ≡ true → CommonTable a b
meet-common a b fits e =
    let some : 0 < bit_and a b = is_positive (bit_and a b) e in
    let lowest = bit_at-trailing_zeros w64 (bit_and a b) some (omega (arith, and_le_l a b)) in
    let bits = both a b (trailing_zeros w64 (bit_and a b)) lowest.1 in
    record {
      table = trailing_zeros w64 (bit_and a b);
      within = lowest.0;
      first = has-by-bit a (trailing_zeros w64 (bit_and a b)) bits.0;
      second = has-by-bit b (trailing_zeros w64 (bit_and a b)) bits.1;
    }

-- and sets with a table in common meet
pub common-meet : (a b : ℕ) → CommonTable a b → meet a b ≡ true
common-meet a b common =
    let one : bit_at (bit_and a b) common.table ≡ 1
    = omega (arith, bit_at_and a b common.table, bit-by-has a common.table common.first, bit-by-has b common.table common.second) in
    positive_is (bit_and a b) (positive (bit_and a b) common.table one)
  where
    positive : (n table : ℕ) → bit_at n table ≡ 1 → 0 < n
    positive zero table one = absurd (omega (arith, bit_at-zero table))
    positive (suc n) table one = omega arith

-- sets that have the same of the 64 tables are one
pub same_by_members : (a b : ℕ) → a < 2 ^ 64 → b < 2 ^ 64 → ((table : ℕ) → table < 64 → has_table a table ≡ has_table b table) → a ≡ b
same_by_members a b first second same = same_from_bits_below 64 a b first second (λ table within. same_bit table (same table within))
  where
    by_test : (table : ℕ) (h : Bool) → has_table a table ≡ h → has_table b table ≡ h → bit_at a table ≡ bit_at b table
    by_test table true of_a of_b = bit-by-has a table of_a ∙ sym (bit-by-has b table of_b)
    by_test table false of_a of_b = bit-by-lacks a table of_a ∙ sym (bit-by-lacks b table of_b)

    same_bit : (table : ℕ) → has_table a table ≡ has_table b table → bit_at a table ≡ bit_at b table
    same_bit table e = by_test table (has_table b table) e refl
