-- Words read byte by byte.
use Rattle.std.proofs.Common.{◌≡◌, ℕ, ◌<◌, ◌≤◌, ◌+◌, Bool, true, false, ◌==◌, ◌&&◌, cond, List, [], ◌∷◌, length, get_or, take, drop, Some, None, Err, refl, sym, ap, ◌∙◌, arith, inl, inr}
use Rattle.std.specs.Prelude.{nat_lt}
use Rattle.std.specs.List.{list_all, onto_first, slice_split, position, position_or_len}
use Rattle.std.proofs.lemmas.Bool.{cases_Bool, lt-ltb, ltb-true}
use Rattle.std.proofs.lemmas.Bool.Decides.{nat_tests}
use Rattle.std.proofs.lemmas.List.{drop_more, drop_all, drop-drop}
use Rattle.std.proofs.lemmas.List.Elements.{All-from_get_or}
use Rattle.std.proofs.lemmas.List.Sums.{fails_before_first}
use Rattle.std.proofs.lemmas.List.Splits.{slice_split-cons_no, slice_split-cons_yes, slice_split_none, slice_split_first}
use Rattle.ltx_model.specs.declared.commands.Bad.TheVariants as causes
use Rattle.ltx_text.specs.Words.{is_visible}
use Rattle.ltx_script.specs.Lines.{alone, is_word}
use Rattle.ltx_text.specs.Cuts.{cut_at, words_of}

-- a text has at least one part
pub alone_more : {X : Type 0} (byte : ℕ) (text : List ℕ) (x : X) → alone (cut_at byte text) x ≡ Err causes.Words
unfolding cut_at
alone_more byte [] x = refl
alone_more byte (b ∷ text) x = by (b == byte) (slice_split (λ c. c == byte) text)
  where
    by_first : (parts : List (List ℕ)) → alone (onto_first b parts) x ≡ Err causes.Words
    by_first [] = refl
    by_first (part ∷ parts) = refl

    by : (test : Bool) (parts : List (List ℕ)) → alone (cond test ([] ∷ parts) (onto_first b parts)) x ≡ Err causes.Words
    by true parts = refl
    by false parts = by_first parts

-- ---- words, byte by byte

-- whether the parts go on as words: in a word, the first part is what is left of it
abbrev pub are_rest : Bool → List (List ℕ) → Bool
are_rest false parts = list_all is_word parts
are_rest true [] = true
are_rest true (part ∷ parts) = list_all is_visible part && list_all is_word parts

rest_end : (in_word : Bool) → are_rest in_word (words_of []) ≡ in_word
unfolding cut_at
rest_end true = refl
rest_end false = refl

-- the same with one more byte before them, of which this is whether it is visible
abbrev first_rest : (visible : Bool) → List (List ℕ) → Bool
first_rest visible [] = visible
first_rest visible (part ∷ parts) = (visible && list_all is_visible part) && list_all is_word parts

both_true : (test : Bool) → ((test && true) && true) ≡ test
both_true true = refl
both_true false = refl

onto_any : (in_word : Bool) (b : ℕ) (parts : List (List ℕ)) → are_rest in_word (onto_first b parts) ≡ first_rest (is_visible b) parts
onto_any true b [] = both_true (is_visible b)
onto_any false b [] = both_true (is_visible b)
onto_any true b (part ∷ parts) = refl
onto_any false b (part ∷ parts) = ap (λ some. (some && (is_visible b && list_all is_visible part)) && list_all is_word parts) (lt-ltb 0 (length (b ∷ part)) (omega arith))

first_visible : (parts : List (List ℕ)) → first_rest true parts ≡ are_rest true parts
first_visible [] = refl
first_visible (part ∷ parts) = refl

first_other : (parts : List (List ℕ)) → first_rest false parts ≡ false
first_other [] = refl
first_other (part ∷ parts) = refl

onto_visible : (in_word : Bool) (b : ℕ) (parts : List (List ℕ)) → is_visible b ≡ true → are_rest in_word (onto_first b parts) ≡ are_rest true parts
onto_visible in_word b parts is = onto_any in_word b parts ∙ ap (λ v. first_rest v parts) is ∙ first_visible parts

onto_other : (in_word : Bool) (b : ℕ) (parts : List (List ℕ)) → is_visible b ≡ false → are_rest in_word (onto_first b parts) ≡ false
onto_other in_word b parts is = onto_any in_word b parts ∙ ap (λ v. first_rest v parts) is ∙ first_other parts

-- a visible byte is no space
pub no_space : (b : ℕ) → is_visible b ≡ true → (b == 32) ≡ false
no_space b visible = grind arith

-- a visible byte goes on with the word
rest_visible : (in_word : Bool) (b : ℕ) (text : List ℕ) → is_visible b ≡ true → are_rest in_word (words_of (b ∷ text)) ≡ are_rest true (words_of text)
unfolding cut_at
rest_visible in_word b text is =
    ap (are_rest in_word) (slice_split-cons_no (λ x. x == 32) b text (no_space b is)) ∙ onto_visible in_word b (words_of text) is

-- a space ends the word
rest_space : (b : ℕ) (text : List ℕ) → (b == 32) ≡ true → are_rest true (words_of (b ∷ text)) ≡ are_rest false (words_of text)
unfolding cut_at
rest_space b text is = ap (are_rest true) (slice_split-cons_yes (λ x. x == 32) b text is)

-- a space with no word before it
rest_lost : (b : ℕ) (text : List ℕ) → (b == 32) ≡ true → are_rest false (words_of (b ∷ text)) ≡ false
unfolding cut_at
rest_lost b text is = ap (are_rest false) (slice_split-cons_yes (λ x. x == 32) b text is)

-- another byte
rest_other : (in_word : Bool) (b : ℕ) (text : List ℕ) → is_visible b ≡ false → (b == 32) ≡ false → are_rest in_word (words_of (b ∷ text)) ≡ false
unfolding cut_at
rest_other in_word b text is other =
    ap (are_rest in_word) (slice_split-cons_no (λ x. x == 32) b text other) ∙ onto_other in_word b (words_of text) is

-- a byte that is not visible, with no word before it
rest_none : (b : ℕ) (text : List ℕ) → is_visible b ≡ false → are_rest false (words_of (b ∷ text)) ≡ false
rest_none b text is = elim (cases_Bool (b == 32)) [ inl space ↦ rest_lost b text space | inr other ↦ rest_other false b text is other ]

-- the next byte of a text is taken off
taken : (in_word : Bool) (text : List ℕ) (i : ℕ) → i < length text → are_rest in_word (words_of (drop i text)) ≡ are_rest in_word (words_of (get_or text i 0 ∷ drop (i + 1) text))
taken in_word text i low = ap (λ t. are_rest in_word (words_of t)) (drop_more text i 0 low)

pub visible_taken : (in_word : Bool) (text : List ℕ) (i : ℕ) → i < length text → is_visible (get_or text i 0) ≡ true
    → are_rest in_word (words_of (drop i text)) ≡ are_rest true (words_of (drop (i + 1) text))
visible_taken in_word text i low is = taken in_word text i low ∙ rest_visible in_word (get_or text i 0) (drop (i + 1) text) is

pub space_taken : (in_word : Bool) (text : List ℕ) (i : ℕ) → i < length text → in_word ≡ true → get_or text i 0 ≡ 32
    → are_rest in_word (words_of (drop i text)) ≡ are_rest false (words_of (drop (i + 1) text))
space_taken true text i low inside is = taken true text i low ∙ rest_space (get_or text i 0) (drop (i + 1) text) (ap (λ b. b == 32) is)
space_taken false text i low inside is = absurd cc

is_other : (b byte : ℕ) → ((b == byte) ≡ true → ⊥) → (b == byte) ≡ false
is_other b byte other = elim (cases_Bool (b == byte)) [ inl is ↦ absurd (other is) | inr is ↦ is ]

pub other_taken : (in_word : Bool) (text : List ℕ) (i : ℕ) → i < length text → is_visible (get_or text i 0) ≡ false → (get_or text i 0 ≡ 32 → ⊥)
    → are_rest in_word (words_of (drop i text)) ≡ false
other_taken in_word text i low is other =
    taken in_word text i low ∙ rest_other in_word (get_or text i 0) (drop (i + 1) text) is (is_other (get_or text i 0) 32 (λ same. other (grind (arith, same))))

pub none_taken : (in_word : Bool) (text : List ℕ) (i : ℕ) → i < length text → in_word ≡ false → is_visible (get_or text i 0) ≡ false → are_rest in_word (words_of (drop i text)) ≡ false
none_taken true text i low outside is = absurd cc
none_taken false text i low outside is = taken false text i low ∙ rest_none (get_or text i 0) (drop (i + 1) text) is

pub all_taken : (in_word : Bool) (text : List ℕ) (i : ℕ) → length text ≤ i → are_rest in_word (words_of (drop i text)) ≡ in_word
all_taken in_word text i high = ap (λ t. are_rest in_word (words_of t)) (drop_all i text high) ∙ rest_end in_word
