-- Numbers of a range against their decimals.
use Rattle.std.proofs.Common.{◌≡◌, ◌≢◌, ℕ, ◌^◌, ◌<◌, ◌≤◌, Bool, true, false, ◌&&◌, List, Some, None, refl, sym, ap, ◌∙◌, arith, inl, inr}
use Rattle.std.specs.Prelude.{bytes_eq, nat_lt, nat_le}
use Rattle.std.specs.Str.Parse.{digits_value}
use Rattle.std.proofs.lemmas.Bool.{cases_Bool}
use Rattle.ltx_text.specs.Decimals.{decimal_of, number_in}
use Rattle.ltx_text.proofs.DecimalLemmas.{decimal_digits, decimal_spelling_injective}
use Rattle.ltx_text.proofs.WordReadings.{text_is, same_bytes, both_true}

below : (a b : ℕ) → a < b → nat_lt a b ≡ true
below a b low = grind arith

lower : (a b : ℕ) → nat_lt a b ≡ true → a < b
lower a b e = grind arith

at_most : (a b : ℕ) → a ≤ b → nat_le a b ≡ true
at_most a b low = grind arith

no_higher : (a b : ℕ) → nat_le a b ≡ true → a ≤ b
no_higher a b e = grind arith

-- the test by which a number is read
abbrev is_read : ℕ → ℕ → List ℕ → Bool
is_read first past word = nat_le first (digits_value 10 word) && nat_lt (digits_value 10 word) past && bytes_eq (decimal_of (digits_value 10 word)) word

pub number_some : (word : List ℕ) (first past n : ℕ) → first ≤ n → n < past → past ≤ 2 ^ 64 → word ≡ decimal_of n → number_in first past word ≡ Some n
unfolding number_in
number_some word first past n low high fits is =
    let value : digits_value 10 word ≡ n = (decimal_digits word n (omega (arith, high, fits)) is).1 in
    rw (value, at_most first n low, below n past high, same_bytes (decimal_of n) word (sym is)) refl

-- the number that was read is in the range, and has this decimal
pub record IsNumber (word : List ℕ) (first past n : ℕ) : Type 0 where
  pub low : first ≤ n
  pub high : n < past
  pub is : word ≡ decimal_of n

-- what the test says of the digits' number
passed : (word : List ℕ) (first past : ℕ) → is_read first past word ≡ true → IsNumber word first past (digits_value 10 word)
passed word first past e =
    let d = digits_value 10 word in
    let p = both_true (nat_le first d && nat_lt d past) (bytes_eq (decimal_of d) word) e in
    let q = both_true (nat_le first d) (nat_lt d past) p.0 in
    record { low = no_higher first d q.0; high = lower d past q.1; is = sym (text_is (decimal_of d) word p.1) }

pub number_is : (word : List ℕ) (first past n : ℕ) → number_in first past word ≡ Some n → IsNumber word first past n
unfolding number_in
number_is word first past n e = elim (cases_Bool (is_read first past word)) [
  | inl e1 ↦
      let found : Some (digits_value 10 word) ≡ Some n = (rw e1 at e) in
      let at : digits_value 10 word ≡ n = cc in
      let r = passed word first past e1 in
      record { low = omega (arith, at, r.low); high = omega (arith, at, r.high); is = r.is ∙ ap decimal_of at }
  | inr e0 ↦ let none : None ≡ Some n = (rw e0 at e) in absurd cc
]

pub number_none : (word : List ℕ) (first past : ℕ) → ((n : ℕ) → first ≤ n → n < past → word ≢ decimal_of n) → number_in first past word ≡ None
unfolding number_in
number_none word first past none = elim (cases_Bool (is_read first past word)) [
  | inl e1 ↦ let r = passed word first past e1 in absurd (none (digits_value 10 word) r.low r.high r.is)
  | inr e0 ↦ rw e0 refl
]

pub no_number : (word : List ℕ) (first past : ℕ) → past ≤ 2 ^ 64 → ((n : ℕ) → n < 2 ^ 64 → word ≢ decimal_of n) → number_in first past word ≡ None
no_number word first past fits none = number_none word first past (λ n low high. none n (omega (arith, high, fits)))

pub other_number : (word : List ℕ) (first past n : ℕ) → past ≤ 2 ^ 64 → n < 2 ^ 64 → word ≡ decimal_of n → (first ≤ n → n < past → ⊥) → number_in first past word ≡ None
other_number word first past n fits low is out =
    number_none word first past (λ m from to same.
    let at : m ≡ n = decimal_spelling_injective m n (omega (arith, to, fits)) low (sym same ∙ is) in
    out (omega (arith, from, at)) (omega (arith, to, at)))
