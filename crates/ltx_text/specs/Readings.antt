-- Reading a word: the byte string that it spells.
use Rattle.std.specs.Prelude.{ℕ, ◌+◌, ◌-◌, ◌*◌, ◌==◌, ◌&&◌, nat_lt, if◌then◌else◌, List, [], ◌∷◌, Option, Some, None, codes, bytes_eq}
use Rattle.std.specs.List.{list_all}
use Rattle.ltx_text.specs.Words.{word_of}

-- the number of a hexadecimal digit
abbrev pub hex_value : ℕ → ℕ
hex_value digit = if nat_lt digit 65 then digit - 48 else digit - 55

-- a text with each `%` and the two digits behind it as one byte
abbrev pub unescaped : List ℕ → List ℕ
unescaped [] = []
unescaped (b ∷ []) = b ∷ []
unescaped (b ∷ h ∷ []) = b ∷ h ∷ []
unescaped (b ∷ h ∷ l ∷ rest) = if b == 37 then (hex_value h * 16 + hex_value l) ∷ unescaped rest else b ∷ unescaped (h ∷ l ∷ rest)

-- these bytes, where they are bytes and this is their word
abbrev pub if_word_of : List ℕ → List ℕ → Option (List ℕ)
if_word_of bytes word = if list_all (λ b. nat_lt b 256) bytes && bytes_eq (word_of bytes) word then Some bytes else None

-- the byte string with this word
unfoldable pub bytes_of : List ℕ → Option (List ℕ)
bytes_of word = if bytes_eq word (codes "%") then Some [] else if_word_of (unescaped word) word
