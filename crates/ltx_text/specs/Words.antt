-- Words: the one spelling of a byte string in visible bytes.
use Rattle.std.specs.Prelude.{ℕ, ◌+◌, ◌/◌, ◌%◌, Bool, IsTrue, not, nat_lt, nat_le, if◌then◌else◌, ◌&&◌, ◌==◌, List, [], ◌∷◌, All, flat_map}

-- a visible byte: 33 to 126
abbrev pub is_visible : ℕ → Bool
is_visible b = nat_le 33 b && nat_le b 126

-- each element is a visible byte
abbrev pub AreVisible : List ℕ → Type 0
AreVisible text = All (λ b. IsTrue (is_visible b)) text

-- a byte that stands for itself: a visible one other than `%` (37)
abbrev pub is_plain : ℕ → Bool
is_plain b = is_visible b && not (b == 37)

-- the upper-case hexadecimal digit of a number below 16: `0` is 48, `A` is 65
abbrev pub hex_digit : ℕ → ℕ
hex_digit d = if nat_lt d 10 then 48 + d else 55 + d

-- a byte in a word: itself, or `%` and two hexadecimal digits
unfoldable pub byte_spelling : ℕ → List ℕ
byte_spelling b = if is_plain b then b ∷ [] else 37 ∷ hex_digit (b / 16) ∷ hex_digit (b % 16) ∷ []

-- the spellings of bytes, one after the other
abbrev pub spellings : List ℕ → List ℕ
spellings bytes = flat_map byte_spelling bytes

-- the word of a byte string: the spellings of its bytes, and `%` for the empty one
abbrev pub word_of : List ℕ → List ℕ
word_of [] = 37 ∷ []
word_of (b ∷ bytes) = spellings (b ∷ bytes)
