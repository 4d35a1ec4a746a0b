-- A word gives the one byte string that it spells.
use Rattle.std.proofs.Common.{◌≡◌, ◌≢◌, ℕ, suc, ◌+◌, ◌*◌, ◌/◌, ◌%◌, ◌<◌, Bool, true, false, ◌==◌, ◌&&◌, List, [], ◌∷◌, ◌++◌, length, get_or, Option, Some, None, refl, sym, ap, subst, ◌∙◌, arith, inl, inr}
use Rattle.std.specs.Prelude.{bytes_eq, nat_lt, codes}
use Rattle.std.specs.List.{list_all, AllByRecursion}
use Rattle.std.proofs.lemmas.Bool.{cases_Bool}
use Rattle.std.proofs.lemmas.List.Elements.{All-from_recursion, recursion_from_All}
use Rattle.std.specs.Cmp.Lexicographic.{same_text, other_text}
use Rattle.ltx_text.specs.Readings.{hex_value, unescaped, if_word_of, bytes_of}
use Rattle.ltx_text.specs.Words.{byte_spelling, hex_digit, is_plain, spellings, word_of}
use Rattle.ltx_model.specs.Limits.{AreBytes}
use Rattle.ltx_text.proofs.WordLemmas.{plain_spelling, escaped_spelling, plain_word, word_spelling_injective}

pub text_is : (xs ys : List ℕ) → bytes_eq xs ys ≡ true → xs ≡ ys
text_is xs ys e = same_text xs ys (sym e)

pub same_bytes : (xs ys : List ℕ) → xs ≡ ys → bytes_eq xs ys ≡ true
same_bytes xs ys is = elim (cases_Bool (bytes_eq xs ys)) [ inl e ↦ e | inr e ↦ absurd (other_text xs ys (sym e) is) ]

pub other_bytes : (xs ys : List ℕ) → xs ≢ ys → bytes_eq xs ys ≡ false
other_bytes xs ys other = elim (cases_Bool (bytes_eq xs ys)) [ inl e ↦ absurd (other (text_is xs ys e)) | inr e ↦ e ]

hex_back : (d : ℕ) → d < 16 → hex_value (hex_digit d) ≡ d
hex_back d low = grind arith

unescaped_plain : (b : ℕ) (rest : List ℕ) → (b == 37) ≡ false → unescaped (b ∷ rest) ≡ b ∷ unescaped rest
unescaped_plain b [] e = refl
unescaped_plain b (h ∷ []) e = refl
unescaped_plain b (h ∷ l ∷ rest) e = rw e refl

plain_is_no_percent : (b : ℕ) → is_plain b ≡ true → (b == 37) ≡ false
plain_is_no_percent b plain = grind arith

unescaped_byte : (b : ℕ) (rest : List ℕ) → b < 256 → unescaped (byte_spelling b ++ rest) ≡ b ∷ unescaped rest
unescaped_byte b rest low = elim (cases_Bool (is_plain b)) [
  | inl p ↦ rw (plain_spelling b p) (unescaped_plain b rest (plain_is_no_percent b p))
  | inr p ↦
      let upper = hex_back (b / 16) (omega (arith, low)) in
      let lower = hex_back (b % 16) (omega (arith, low)) in
      let whole : hex_value (hex_digit (b / 16)) * 16 + hex_value (hex_digit (b % 16)) ≡ b = omega (arith, upper, lower) in
      rw (escaped_spelling b p) (ap (λ k. k ∷ unescaped rest) whole)
]

unescaped_spellings : (bytes : List ℕ) → AllByRecursion (λ b. b < 256) bytes → unescaped (spellings bytes) ≡ bytes
unescaped_spellings [] low = refl
unescaped_spellings (b ∷ bytes) low = unescaped_byte b (spellings bytes) low.0 ∙ ap (λ l. b ∷ l) (unescaped_spellings bytes low.1)

byte_test : (b : ℕ) → b < 256 → nat_lt b 256 ≡ true
byte_test b low = grind arith

byte_low : (b : ℕ) → nat_lt b 256 ≡ true → b < 256
byte_low b e = grind arith

bytes_test : (bytes : List ℕ) → AllByRecursion (λ b. b < 256) bytes → list_all (λ b. nat_lt b 256) bytes ≡ true
bytes_test [] low = refl
bytes_test (b ∷ bytes) low = rw (byte_test b low.0) (bytes_test bytes low.1)

pub both_true : (a b : Bool) → (a && b) ≡ true → (a ≡ true) × (b ≡ true)
both_true true true e = (refl, refl)
both_true true false e = absurd cc
both_true false b e = absurd cc

bytes_low : (bytes : List ℕ) → list_all (λ b. nat_lt b 256) bytes ≡ true → AllByRecursion (λ b. b < 256) bytes
bytes_low [] e = tt
bytes_low (b ∷ bytes) e = let p = both_true (nat_lt b 256) (list_all (λ b. nat_lt b 256) bytes) e in (byte_low b p.0, bytes_low bytes p.1)

each_low : (bytes : List ℕ) → ((i : ℕ) → get_or bytes i 0 < 256) → AllByRecursion (λ b. b < 256) bytes
each_low [] fits = tt
each_low (b ∷ bytes) fits = (fits 0, each_low bytes (λ i. fits (suc i)))

-- what a vector of bytes holds are bytes
pub are_bytes : (bytes : List ℕ) → ((i : ℕ) → get_or bytes i 0 < 256) → AreBytes bytes
are_bytes bytes fits = All-from_recursion (λ b. b < 256) bytes (each_low bytes fits)

-- these bytes are bytes, and this is their word
pub record IsWordOf (word bytes : List ℕ) : Type 0 where
  pub low : AreBytes bytes
  pub is : word ≡ word_of bytes

pub bytes_again : (word bytes : List ℕ) → AreBytes bytes → word ≡ word_of bytes → bytes_of word ≡ Some bytes
unfolding bytes_of
bytes_again word [] low is = rw (same_bytes word (codes "%") is) refl
bytes_again word (b ∷ bytes) low is =
    let all = recursion_from_All (λ b. b < 256) (b ∷ bytes) low in
    let more : bytes_eq word (codes "%") ≡ false = other_bytes word (codes "%") (λ e. let one : [] ≡ b ∷ bytes = word_spelling_injective [] (b ∷ bytes) (sym e ∙ is) in absurd cc) in
    let back : unescaped word ≡ b ∷ bytes = ap unescaped is ∙ unescaped_spellings (b ∷ bytes) all in
    rw (more, back, bytes_test (b ∷ bytes) all, same_bytes (word_of (b ∷ bytes)) word (sym is)) refl

-- a word whose bytes stand for themselves is read as its own bytes
pub plain_again : (word : List ℕ) → 0 < length word → list_all is_plain word ≡ true → AreBytes word → bytes_of word ≡ Some word
plain_again word some plain low = bytes_again word word low (sym (plain_word word some plain))

if_word_is : (bytes word read : List ℕ) → if_word_of bytes word ≡ Some read → IsWordOf word read
if_word_is bytes word read e = elim (cases_Bool (list_all (λ b. nat_lt b 256) bytes && bytes_eq (word_of bytes) word)) [
  | inl e1 ↦
      let p = both_true (list_all (λ b. nat_lt b 256) bytes) (bytes_eq (word_of bytes) word) e1 in
      let found : Some bytes ≡ Some read = (rw e1 at e) in
      let at : bytes ≡ read = cc in
      subst (λ (l : List ℕ). IsWordOf word l) at (record { low = All-from_recursion (λ b. b < 256) bytes (bytes_low bytes p.0); is = sym (text_is (word_of bytes) word p.1) })
  | inr e0 ↦ let found : None ≡ Some read = (rw e0 at e) in absurd cc
]

pub bytes_is : (word bytes : List ℕ) → bytes_of word ≡ Some bytes → IsWordOf word bytes
unfolding bytes_of
bytes_is word bytes e = elim (cases_Bool (bytes_eq word (codes "%"))) [
  | inl e1 ↦
      let found : Some [] ≡ Some bytes = (rw e1 at e) in
      let at : [] ≡ bytes = cc in
      subst (λ (l : List ℕ). IsWordOf word l) at (record { low = All-from_recursion (λ b. b < 256) [] tt; is = text_is word (codes "%") e1 })
  | inr e0 ↦ if_word_is (unescaped word) word bytes (rw e0 at e)
]

none_of : (word : List ℕ) (read : Option (List ℕ)) → bytes_of word ≡ read → ((bytes : List ℕ) → AreBytes bytes → word ≢ word_of bytes) → bytes_of word ≡ None
none_of word None e none = e
none_of word (Some bytes) e none = let is = bytes_is word bytes e in absurd (none bytes is.low is.is)

pub no_bytes : (word : List ℕ) → ((bytes : List ℕ) → AreBytes bytes → word ≢ word_of bytes) → bytes_of word ≡ None
no_bytes word none = none_of word (bytes_of word) refl none
