-- A text of plain bytes is one word.
use Rattle.std.proofs.Common.{◌≡◌, ℕ, true, false, ◌==◌, List, [], ◌∷◌, Ok, ap}
use Rattle.std.specs.List.{list_all, AllByRecursion}
use Rattle.std.proofs.lemmas.List.Elements.{All-from_recursion}
use Rattle.std.proofs.lemmas.List.Splits.{slice_split_none}
use Rattle.ltx_text.specs.Words.{is_plain, is_visible}
use Rattle.ltx_text.proofs.WordReadings.{both_true}
use Rattle.ltx_text.specs.Cuts.{cut_at, words_of}
use Rattle.ltx_script.specs.Readers.{last_word}
use Rattle.ltx_script.proofs.Parts.{no_space}

plain_spaces : (text : List ℕ) → list_all is_plain text ≡ true → AllByRecursion (λ b. (b == 32) ≡ false) text
plain_spaces [] plain = tt
plain_spaces (b ∷ text) plain =
    let p = both_true (is_plain b) (list_all is_plain text) plain in
    (no_space b (both_true (is_visible b) _ p.0).0, plain_spaces text p.1)

plain_parts : (text : List ℕ) → list_all is_plain text ≡ true → words_of text ≡ text ∷ []
unfolding cut_at
plain_parts text plain = slice_split_none (λ b. b == 32) text (All-from_recursion (λ b. (b == 32) ≡ false) text (plain_spaces text plain))

-- such a text is the last word
pub plain_last : (text : List ℕ) → list_all is_plain text ≡ true → last_word (words_of text) ≡ Ok text
plain_last text plain = ap last_word (plain_parts text plain)
