-- A line is cut in one way into a command and what stands behind the arrow after it.
use Rattle.std.proofs.Common.{◌≡◌, ℕ, ◌+◌, ◌≤◌, true, false, ◌==◌, List, [], ◌∷◌, ◌++◌, length, take, refl, sym, ap, ◌∙◌, append_assoc, arith, inl, inr}
use Rattle.std.specs.Prelude.{bytes_eq, nat_lt, codes, All, if◌then◌else◌}
use Rattle.std.specs.List.{list_all, AllByRecursion}
use Rattle.std.specs.Int.{IsInRange}
use Rattle.std.proofs.Math.Seq.{take-append_seam}
use Rattle.std.proofs.lemmas.Bool.{cases_Bool}
use Rattle.std.proofs.lemmas.List.{append_cancel_left}
use Rattle.std.proofs.lemmas.List.Elements.{All-from_recursion}
use Rattle.std.proofs.lemmas.List.Splits.{slice_split_at}
use Rattle.std.proofs.lemmas.Str.Parse.{digit_from_value}
use Rattle.ltx_model.specs.declared.commands.Op.TheVariants.{Get, Scan, Put, Del}
use Rattle.ltx_model.specs.declared.commands.Verb.{Verb}
use Rattle.ltx_model.specs.declared.commands.Verb.TheVariants as verbs
use Rattle.ltx_model.specs.declared.commands.Command.{Command}
use Rattle.ltx_model.specs.declared.commands.Command.TheVariants as commands
use Rattle.ltx_model.specs.Tables.{all_tables}
use Rattle.ltx_text.specs.Words.{is_visible}
use Rattle.ltx_text.specs.Decimals.{decimal_of}
use Rattle.ltx_text.proofs.DecimalLemmas.{decimal_digits, decimal_is_some}
use Rattle.ltx_text.proofs.WordReadings.{both_true, other_bytes}
use Rattle.ltx_script.specs.Commands.{joined, verb_words, command_words, command_text, IsCommand}
use Rattle.ltx_text.specs.Cuts.{cut_at, words_of}
use Rattle.ltx_script.specs.Lines.{is_word}
use Rattle.ltx_script.proofs.Parts.{no_space}
use Rattle.ltx_script.proofs.Spellings.{asked}
use Rattle.ltx_script.proofs.Spelt.{words_true, one_command}

-- ---- the words of what stands before a space

no_spaces : (word : List ℕ) → list_all is_visible word ≡ true → AllByRecursion (λ b. (b == 32) ≡ false) word
no_spaces [] visible = tt
no_spaces (b ∷ word) visible = let p = both_true (is_visible b) (list_all is_visible word) visible in (no_space b p.0, no_spaces word p.1)

word_parts : (word : List ℕ) → is_word word ≡ true → All (λ b. (b == 32) ≡ false) word
word_parts word e = All-from_recursion (λ b. (b == 32) ≡ false) word (no_spaces word (both_true (nat_lt 0 (length word)) (list_all is_visible word) e).1)

-- words joined by spaces, and a space behind them, are cut there
words_before : (word : List ℕ) (words : List (List ℕ)) (t : List ℕ) → list_all is_word (word ∷ words) ≡ true → words_of (joined (word ∷ words) ++ 32 ∷ t) ≡ (word ∷ words) ++ words_of t
unfolding cut_at
words_before word [] t e = slice_split_at (λ b. b == 32) word 32 t (word_parts word (both_true (is_word word) true e).0) refl
words_before word (next ∷ words) t e =
    let p = both_true (is_word word) (list_all is_word (next ∷ words)) e in
    ap words_of (append_assoc word (32 ∷ joined (next ∷ words)) (32 ∷ t))
    ∙ slice_split_at (λ b. b == 32) word 32 (joined (next ∷ words) ++ 32 ∷ t) (word_parts word p.0) refl
    ∙ ap (λ l. word ∷ l) (words_before next words t p.1)

-- the words of a line that begins with a command
command_before : (command : Command) (t : List ℕ) → IsCommand command → words_of (command_text command ++ 32 ∷ t) ≡ command_words command ++ words_of t
unfolding command_text
command_before commands.Epoch t fits = words_before (codes "epoch") [] t refl
command_before commands.Flush t fits = words_before (codes "flush") [] t refl
command_before commands.Prune t fits = words_before (codes "prune") [] t refl
command_before (commands.Ask session verb) t fits = words_before (decimal_of session) (verb_words verb) t (words_true (commands.Ask session verb) fits)

abbrev arrow : List ℕ
arrow = codes "=>"

arrow_word : (t : List ℕ) → words_of (arrow ++ 32 ∷ t) ≡ arrow ∷ words_of t
arrow_word t = words_before arrow [] t refl

whole_words : (command : Command) (t : List ℕ) → IsCommand command → words_of (command_text command ++ codes " => " ++ t) ≡ command_words command ++ arrow ∷ words_of t
whole_words command t fits = ap words_of (append_assoc (command_text command) (codes " => ") t) ∙ command_before command (arrow ++ 32 ∷ t) fits ∙ ap (λ l. command_words command ++ l) (arrow_word t)

-- ---- the first words tell how many words a command has

abbrev long_count : List (List ℕ) → ℕ
long_count [] = 0
long_count (w ∷ []) = 0
long_count (w ∷ x ∷ words) = if bytes_eq (take 2 x) (codes "R=") then 4 else 3

abbrev verb_count : List (List ℕ) → ℕ
verb_count [] = 0
verb_count (v ∷ words) =
    if bytes_eq v (codes "short") then 2
    else if bytes_eq v (codes "long") then long_count words
    else if bytes_eq v (codes "get") then 4
    else if bytes_eq v (codes "scan") then 5
    else if bytes_eq v (codes "put") then 5
    else if bytes_eq v (codes "del") then 4
    else 2

abbrev command_count : List (List ℕ) → ℕ
command_count [] = 0
command_count (w ∷ words) =
    if bytes_eq w (codes "epoch") then 1
    else if bytes_eq w (codes "flush") then 1
    else if bytes_eq w (codes "prune") then 1
    else verb_count words

verb_counted : (verb : Verb) (words : List (List ℕ)) → verb_count (verb_words verb ++ arrow ∷ words) ≡ length (verb_words verb) + 1
verb_counted verbs.Short words = refl
verb_counted (verbs.Long writes reads) words = elim (cases_Bool (reads == all_tables)) [
  | inl e1 ↦ rw e1 refl
  | inr e0 ↦ rw e0 refl
]
verb_counted (verbs.Do (Get table key)) words = refl
verb_counted (verbs.Do (Scan table low high)) words = refl
verb_counted (verbs.Do (Put table key value)) words = refl
verb_counted (verbs.Do (Del table key)) words = refl
verb_counted verbs.Commit words = refl
verb_counted verbs.Abort words = refl

no_name : (session first : ℕ) (rest : List ℕ) → session ≤ 1024 → 58 ≤ first → decimal_of session ≡ first ∷ rest → ⊥
no_name session first rest low letter e =
    let digits = decimal_digits (first ∷ rest) session (omega (arith, low)) (sym e) in
    out (digit_from_value first digits.0.0)
  where
    out : IsInRange 48 57 first → ⊥
    out range = grind (arith, letter)

other_name : (session first : ℕ) (rest : List ℕ) → session ≤ 1024 → 58 ≤ first → bytes_eq (decimal_of session) (first ∷ rest) ≡ false
other_name session first rest low letter = other_bytes (decimal_of session) (first ∷ rest) (no_name session first rest low letter)

counted : (command : Command) (words : List (List ℕ)) → IsCommand command → command_count (command_words command ++ arrow ∷ words) ≡ length (command_words command)
counted commands.Epoch words fits = refl
counted commands.Flush words fits = refl
counted commands.Prune words fits = refl
counted (commands.Ask session verb) words fits =
    rw (other_name session 101 (codes "poch") fits.1 (omega arith), other_name session 102 (codes "lush") fits.1 (omega arith), other_name session 112 (codes "rune") fits.1 (omega arith))
    (verb_counted verb words ∙ omega arith)

-- ---- one command, and one text behind it

pub same_command : (a b : Command) (r s : List ℕ) → IsCommand a → IsCommand b → command_text a ++ codes " => " ++ r ≡ command_text b ++ codes " => " ++ s → a ≡ b
unfolding command_text
same_command a b r s first second same =
    let words : command_words a ++ arrow ∷ words_of r ≡ command_words b ++ arrow ∷ words_of s
    = sym (whole_words a r first) ∙ ap words_of same ∙ whole_words b s second in
    let long : length (command_words a) ≡ length (command_words b)
    = sym (counted a (words_of r) first) ∙ ap command_count words ∙ counted b (words_of s) second in
    let fronts : command_words a ≡ command_words b
    = sym (take-append_seam (command_words a) (arrow ∷ words_of r)) ∙ (λ i. take (long i) (words i)) ∙ take-append_seam (command_words b) (arrow ∷ words_of s) in
    one_command a b first second (ap joined fronts)

pub same_behind : (a b : Command) (r s : List ℕ) → IsCommand a → IsCommand b → command_text a ++ codes " => " ++ r ≡ command_text b ++ codes " => " ++ s → r ≡ s
same_behind a b r s first second same =
    let one : a ≡ b = same_command a b r s first second same in
    let here : command_text a ++ codes " => " ++ r ≡ command_text a ++ codes " => " ++ s = same ∙ ap (λ c. command_text c ++ codes " => " ++ s) (sym one) in
    append_cancel_left (command_text a ++ codes " => ") r s here

-- the first byte
abbrev pub first_of : List ℕ → ℕ
first_of [] = 0
first_of (b ∷ bytes) = b

-- No command begins with a letter that is none of `e`, `f` and `p`, or with `?`.
pub no_letter : (first : ℕ) (command : Command) (r t : List ℕ) → 58 ≤ first → (101 ≡ first → ⊥) → (102 ≡ first → ⊥) → (112 ≡ first → ⊥) → IsCommand command → command_text command ++ r ≡ first ∷ t → ⊥
unfolding command_text
no_letter first commands.Epoch r t letter e f p fits is = e (ap first_of is)
no_letter first commands.Flush r t letter e f p fits is = f (ap first_of is)
no_letter first commands.Prune r t letter e f p fits is = p (ap first_of is)
no_letter first (commands.Ask session verb) r t letter e f p fits is = by (decimal_of session) refl (ap (λ l. l ++ r) (sym (asked (decimal_of session) verb)) ∙ is)
  where
    by : (word : List ℕ) → decimal_of session ≡ word → (word ++ 32 ∷ joined (verb_words verb)) ++ r ≡ first ∷ t → ⊥
    by [] e is = omega (arith, ap length e, decimal_is_some (decimal_of session) session (omega (arith, fits.1)) refl)
    by (b ∷ word) e is = let h : b ≡ first = ap first_of is in no_name session b word fits.1 (omega (arith, h, letter)) e

-- no command begins with `?`
pub no_question : (command : Command) (r t : List ℕ) → IsCommand command → command_text command ++ r ≡ 63 ∷ t → ⊥
no_question command r t fits is = no_letter 63 command r t (omega arith) (λ e. omega (arith, e)) (λ e. omega (arith, e)) (λ e. omega (arith, e)) fits is

-- no command begins with `o`
pub no_order_name : (command : Command) (r t : List ℕ) → IsCommand command → command_text command ++ r ≡ 111 ∷ t → ⊥
no_order_name command r t fits is = no_letter 111 command r t (omega arith) (λ e. omega (arith, e)) (λ e. omega (arith, e)) (λ e. omega (arith, e)) fits is
