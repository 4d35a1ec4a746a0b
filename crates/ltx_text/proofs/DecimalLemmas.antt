-- Numbers and the digits that write them.
use Rattle.std.proofs.Common.{◌≡◌, ◌≢◌, ℕ, zero, suc, ◌+◌, ◌*◌, ◌^◌, ◌<◌, ◌≤◌, true, false, List, [], ◌∷◌, length, get_or, drop, Option, Some, None, IfSome, IfNone, refl, sym, ap, ◌∙◌, decimal, arith}
use Rattle.std.proofs.Math.Seq.{drop-cons}
use Rattle.std.specs.Prelude.{IsTrue}
use Rattle.std.specs.List.{AllByRecursion}
use Rattle.std.proofs.lemmas.List.Elements.{All-from_recursion}
use Rattle.ltx_text.specs.Decimals.{decimal_of}
use Rattle.ltx_text.specs.Words.{AreVisible, is_visible}
use Rattle.std.specs.Str.Parse.{AllDigits, digits_value, digits_value_after}
use Rattle.std.specs.Char.{digit_value, is_ascii_digit}
use Rattle.std.specs.Int.{IsInRange}
use Rattle.std.proofs.lemmas.Str.{digit_value_digit}
use Rattle.std.proofs.lemmas.Fmt.{decimal-digits_value, decimal_digit, decimal_injective, decimal_is_IsNumeral, decimal_nonempty, first_decimal}
use Rattle.std.proofs.lemmas.Str.Parse.{IsNumeralModel, digit_from_value}

-- the digits from a place on are the one there and those behind it
pub next_digit : (ds : List ℕ) (i : ℕ) → i < length ds → drop i ds ≡ get_or ds i 0 ∷ drop (i + 1) ds
next_digit ds i in' = let one : i + 1 ≡ suc i = omega arith in rw one (drop-cons ds i 0 in')

-- more digits never lessen a number
pub value_grows : (n : ℕ) (ds : List ℕ) → n ≤ digits_value_after 10 n ds
value_grows n [] = omega arith
value_grows n (d ∷ ds) = omega (arith, value_grows (n * 10 + digit_value d) ds)

pub value_next : (n whole : ℕ) (ds : List ℕ) (i : ℕ) → i < length ds → digits_value_after 10 n (drop i ds) ≡ whole → digits_value_after 10 (n * 10 + digit_value (get_or ds i 0)) (drop (i + 1) ds) ≡ whole
value_next n whole ds i in' is = rw (next_digit ds i in') at is

-- a number that is too large with its next digit is too large
pub too_large : (n whole : ℕ) (ds : List ℕ) (i : ℕ) → i < length ds → digits_value_after 10 n (drop i ds) ≡ whole → n * 10 + digit_value (get_or ds i 0) ≤ whole
too_large n whole ds i in' is =
    let next = value_next n whole ds i in' is in
    omega (arith, next, value_grows (n * 10 + digit_value (get_or ds i 0)) (drop (i + 1) ds))

pub digit_there : (ds : List ℕ) (i : ℕ) → i < length ds → AllDigits 10 (drop i ds) → (digit_value (get_or ds i 0) < 10) × AllDigits 10 (drop (i + 1) ds)
digit_there ds i in' all = rw (next_digit ds i in') at all

pub digits_before : (ds : List ℕ) (i : ℕ) → i < length ds → digit_value (get_or ds i 0) < 10 → AllDigits 10 (drop (i + 1) ds) → AllDigits 10 (drop i ds)
digits_before ds i in' one rest = rw (next_digit ds i in') (one, rest)

pub digit_is : (d : ℕ) → true ≡ is_ascii_digit d → (digit_value d < 10) × (digit_value d + 48 ≡ d)
digit_is d is = let range : IsInRange 48 57 d = grind arith in let v = digit_value_digit d range in (omega (arith, range, v), v)

pub no_digit : (d : ℕ) → false ≡ is_ascii_digit d → digit_value d < 10 → ⊥
no_digit d is low = let range : IsInRange 48 57 d = digit_from_value d low in grind arith

-- ---- against the decimal of a number

own : IsNumeralModel (AllDigits 10) (digits_value 10)
own = record { to = λ ds all. all; from = λ ds all. all; same = λ ds all. refl }

pub decimal_read : (ds : List ℕ) (n : ℕ) → AllDigits 10 ds → digits_value 10 ds ≡ n → n < 2 ^ 64 → 0 < length ds → (get_or ds 0 0 ≡ 48 → length ds ≡ 1) → ds ≡ decimal n
decimal_read ds n all value low some leading =
    let fits : digits_value 10 ds < 2 ^ 64 = omega (arith, value, low) in
    sym (decimal-digits_value own ds all some leading fits) ∙ ap decimal value

pub decimal_digits : (ds : List ℕ) (n : ℕ) → n < 2 ^ 64 → ds ≡ decimal n → AllDigits 10 ds × (digits_value 10 ds ≡ n)
decimal_digits ds n low is = let d = decimal_is_IsNumeral n low in rw is (d.0.1, d.1)

pub decimal_is_some : (ds : List ℕ) (n : ℕ) → n < 2 ^ 64 → ds ≡ decimal n → 0 < length ds
decimal_is_some ds n low is = rw is (decimal_nonempty n low)

-- only zero begins with a zero
pub decimal_zero : (ds : List ℕ) (n : ℕ) → n < 2 ^ 64 → ds ≡ decimal n → get_or ds 0 0 ≡ 48 → length ds ≡ 1
decimal_zero ds zero low is first = rw (is, decimal_digit 0 (omega arith)) refl
decimal_zero ds (suc n) low is first =
    let large = first_decimal (suc n) (omega arith) low in
    let same : get_or (decimal (suc n)) 0 0 ≡ 48 = sym (ap (λ (t : List ℕ). get_or t 0 0) is) ∙ first in
    absurd (omega (arith, large, same))

pub found_decimal : (word : List ℕ) (r : Option ℕ) → 0 < length word → (get_or word 0 0 ≡ 48 → length word ≡ 1)
    → IfSome r (λ n. AllDigits 10 word × (digits_value 10 word ≡ n) × (n < 2 ^ 64)) → IfSome r (λ n. word ≡ decimal n)
found_decimal word None some leading found = tt
found_decimal word (Some n) some leading found = decimal_read word n found.0 found.1 found.2 some leading

pub no_decimal : (word : List ℕ) (r : Option ℕ) → IfNone r (AllDigits 10 word → 2 ^ 64 ≤ digits_value 10 word) → IfNone r ((n : ℕ) → n < 2 ^ 64 → word ≢ decimal n)
no_decimal word (Some n) none = tt
no_decimal word None none = λ n low is. let d = decimal_digits word n low is in omega (arith, low, d.1, none d.0)

pub decimal_again : (word : List ℕ) (r : Option ℕ) → IfSome r (λ n. AllDigits 10 word × (digits_value 10 word ≡ n) × (n < 2 ^ 64)) → IfNone r (AllDigits 10 word → 2 ^ 64 ≤ digits_value 10 word)
    → 0 < length word → (get_or word 0 0 ≡ 48 → length word ≡ 1) → (n : ℕ) → n < 2 ^ 64 → word ≡ decimal n → r ≡ Some n
decimal_again word None found none some leading n low is = absurd (no_decimal word None none n low is)
decimal_again word (Some m) found none some leading n low is =
    ap (λ (k : ℕ). Some k) (decimal_injective m n found.2 low (sym (found_decimal word (Some m) some leading found) ∙ is))

-- ---- what callers join by spaces

pub decimal_spelling_injective : (m n : ℕ) → m < 2 ^ 64 → n < 2 ^ 64 → decimal_of m ≡ decimal_of n → m ≡ n
decimal_spelling_injective m n low high same = decimal_injective m n low high same

digits_are_visible : (ds : List ℕ) → AllDigits 10 ds → AllByRecursion (λ c. IsTrue (is_visible c)) ds
digits_are_visible [] all = tt
digits_are_visible (d ∷ ds) all = let range : IsInRange 48 57 d = digit_from_value d all.0 in (visible d range, digits_are_visible ds all.1)
  where
    visible : (d : ℕ) → IsInRange 48 57 d → IsTrue (is_visible d)
    visible d range = grind arith

pub decimal_is_visible : (n : ℕ) → n < 2 ^ 64 → AreVisible (decimal_of n)
decimal_is_visible n low = All-from_recursion (λ c. IsTrue (is_visible c)) (decimal n) (digits_are_visible (decimal n) (decimal_is_IsNumeral n low).0.1)
