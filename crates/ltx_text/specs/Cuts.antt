-- Texts in parts: cut at a byte, and a word behind a space.
use Rattle.std.specs.Prelude.{ℕ, ◌==◌, List, [], ◌∷◌, Option, Some, None}
use Rattle.std.specs.List.{slice_split}

-- the parts of a text between the bytes at which it is cut
unfoldable pub cut_at : ℕ → List ℕ → List (List ℕ)
cut_at byte text = slice_split (λ b. b == byte) text

-- the parts of what stands behind such a byte, if there is one
abbrev pub parts_after : ℕ → Option (List ℕ) → List (List ℕ)
parts_after byte None = []
parts_after byte (Some text) = cut_at byte text

-- the words of a text: the parts between its spaces
abbrev pub words_of : List ℕ → List (List ℕ)
words_of text = cut_at 32 text

-- the words of what stands behind a space, if there is one
abbrev pub words_after : Option (List ℕ) → List (List ℕ)
words_after rest = parts_after 32 rest

-- a word after a space
abbrev pub spaced : List ℕ → List ℕ
spaced word = 32 ∷ word
