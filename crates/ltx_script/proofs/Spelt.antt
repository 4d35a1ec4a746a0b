-- What was spelt is read again.
use Rattle.std.proofs.Common.{◌≡◌, ℕ, ◌+◌, ◌*◌, ◌^◌, ◌<◌, ◌≤◌, true, false, ◌==◌, List, [], ◌∷◌, ◌++◌, length, Some, Ok, refl, sym, ap, ◌∙◌, arith, inl, inr, length-append}
use Rattle.std.specs.Prelude.{bytes_eq, nat_lt, codes, IsTrue, All}
use Rattle.std.specs.List.{list_all, AllByRecursion}
use Rattle.std.specs.Int.{IsInRange}
use Rattle.std.proofs.lemmas.Bool.{cases_Bool, le-ltb, lt-ltb}
use Rattle.std.proofs.lemmas.Fmt.{length-decimal-le, decimal_nonempty}
use Rattle.std.proofs.lemmas.List.Elements.{All-from_recursion, recursion_from_All}
use Rattle.std.proofs.lemmas.List.Folds.{list_all-append}
use Rattle.std.proofs.lemmas.List.Splits.{slice_split_at, slice_split_none}
use Rattle.std.proofs.lemmas.Str.Parse.{digit_from_value}
use Rattle.ltx_model.specs.declared.commands.Op.TheVariants.{Get, Scan, Put, Del}
use Rattle.ltx_model.specs.declared.commands.Verb.{Verb}
use Rattle.ltx_model.specs.declared.commands.Verb.TheVariants as verbs
use Rattle.ltx_model.specs.declared.commands.Command.{Command}
use Rattle.ltx_model.specs.declared.commands.Command.TheVariants as commands
use Rattle.ltx_model.specs.Tables.{all_tables}
use Rattle.ltx_text.specs.Words.{is_visible, byte_spelling, is_plain, spellings, word_of}
use Rattle.ltx_model.specs.Limits.{AreBytes, IsKey, IsBound, IsValue}
use Rattle.ltx_text.specs.Decimals.{decimal_of}
use Rattle.ltx_text.proofs.DecimalLemmas.{decimal_digits, decimal_is_visible}
use Rattle.ltx_text.proofs.WordLemmas.{word_is_some, word_is_visible, plain_spelling, escaped_spelling}
use Rattle.ltx_script.specs.Commands.{joined, commas, tables_of, tables_text, set_text, writes_word, reads_words, verb_words, command_words, command_text, IsVerb, IsCommand}
use Rattle.ltx_script.specs.Lines.{is_word, table_at, session_at, key_at, bound_at, value_at, writes_at, reads_at, one_or_two, two, three, long_at, get_at, scan_at, put_at, del_at, verb_at, asked_at, ask_at, command_at, said_at, most_bytes, reading}
use Rattle.ltx_text.specs.Cuts.{cut_at, words_of}
use Rattle.ltx_script.specs.Rising.{IsRisingFrom}
use Rattle.ltx_script.proofs.Parts.{no_space}
use Rattle.ltx_text.proofs.WordReadings.{both_true, bytes_again, other_bytes}
use Rattle.ltx_script.proofs.ValueLemmas.{key_some, bound_some, value_some}
use Rattle.ltx_text.proofs.Numbers.{number_some}
use Rattle.ltx_script.proofs.Readings.{ok_is}
use Rattle.ltx_script.proofs.SetLemmas.{tables_rise}
use Rattle.ltx_script.proofs.SetTexts.{set_again, all_text, is_all, other_text}

-- ---- words

no_spaces : (word : List ℕ) → list_all is_visible word ≡ true → AllByRecursion (λ b. (b == 32) ≡ false) word
no_spaces [] visible = tt
no_spaces (b ∷ word) visible = let p = both_true (is_visible b) (list_all is_visible word) visible in (no_space b p.0, no_spaces word p.1)

word_parts : (word : List ℕ) → is_word word ≡ true → All (λ b. (b == 32) ≡ false) word
word_parts word e = All-from_recursion (λ b. (b == 32) ≡ false) word (no_spaces word (both_true (nat_lt 0 (length word)) (list_all is_visible word) e).1)

-- words joined by spaces are cut where they were joined
pub cut_joined : (word : List ℕ) (words : List (List ℕ)) → list_all is_word (word ∷ words) ≡ true → words_of (joined (word ∷ words)) ≡ word ∷ words
unfolding cut_at
cut_joined word [] e = slice_split_none (λ b. b == 32) word (word_parts word (both_true (is_word word) true e).0)
cut_joined word (next ∷ words) e =
    let p = both_true (is_word word) (list_all is_word (next ∷ words)) e in
    slice_split_at (λ b. b == 32) word 32 (joined (next ∷ words)) (word_parts word p.0) refl ∙ ap (λ l. word ∷ l) (cut_joined next words p.1)

word_true : (word : List ℕ) → 0 < length word → list_all is_visible word ≡ true → is_word word ≡ true
word_true word some visible = rw (lt-ltb 0 (length word) some) visible

visible_by : (word : List ℕ) → AllByRecursion (λ b. IsTrue (is_visible b)) word → list_all is_visible word ≡ true
visible_by [] all = refl
visible_by (b ∷ word) all = rw (all.0) (visible_by word all.1)

decimal_visible : (n : ℕ) → n < 2 ^ 64 → list_all is_visible (decimal_of n) ≡ true
decimal_visible n low = visible_by (decimal_of n) (recursion_from_All (λ b. IsTrue (is_visible b)) (decimal_of n) (decimal_is_visible n low))

pub decimal_word : (n : ℕ) → n < 2 ^ 64 → is_word (decimal_of n) ≡ true
decimal_word n low = word_true (decimal_of n) (decimal_nonempty n low) (decimal_visible n low)

pub bytes_word : (bytes : List ℕ) → AreBytes bytes → is_word (word_of bytes) ≡ true
bytes_word bytes low = word_true (word_of bytes) (word_is_some bytes) (visible_by (word_of bytes) (recursion_from_All (λ b. IsTrue (is_visible b)) (word_of bytes) (word_is_visible bytes low)))

commas_visible : (least : ℕ) (ts : List ℕ) → IsRisingFrom least ts → list_all is_visible (commas ts) ≡ true
commas_visible least [] rising = refl
commas_visible least (t ∷ []) rising = decimal_visible t (omega (arith, rising.1))
commas_visible least (t ∷ u ∷ ts) rising =
    list_all-append is_visible (decimal_of t) (44 ∷ commas (u ∷ ts)) ∙ rw (decimal_visible t (omega (arith, rising.1))) (commas_visible (t + 1) (u ∷ ts) rising.2)

tables_visible : (ts : List ℕ) → IsRisingFrom 0 ts → list_all is_visible (tables_text ts) ≡ true
tables_visible [] rising = refl
tables_visible (t ∷ ts) rising = commas_visible 0 (t ∷ ts) rising

set_visible : (set : ℕ) → list_all is_visible (set_text set) ≡ true
set_visible set = elim (cases_Bool (set == all_tables)) [
  | inl e1 ↦ ap (λ s. list_all is_visible (set_text s)) (is_all set e1) ∙ ap (list_all is_visible) all_text
  | inr e0 ↦ ap (list_all is_visible) (other_text set e0) ∙ tables_visible (tables_of set) (tables_rise set)
]

pub marked_word : (first : ℕ) (set : ℕ) → is_visible first ≡ true → is_word (first ∷ 61 ∷ set_text set) ≡ true
marked_word first set visible = word_true (first ∷ 61 ∷ set_text set) (omega arith) (rw visible (set_visible set))

-- ---- arguments

pub table_again : (table : ℕ) → table < 64 → table_at (decimal_of table) ≡ Ok table
table_again table low = rw (number_some (decimal_of table) 0 64 table (omega arith) (omega (arith, low)) (omega arith) refl) refl

pub session_again : (session : ℕ) → 0 < session → session ≤ 1024 → session_at (decimal_of session) ≡ Ok session
session_again session some low = rw (number_some (decimal_of session) 1 1025 session (omega (arith, some)) (omega (arith, low)) (omega arith) refl) refl

pub key_again : (key : List ℕ) → IsKey key → key_at (word_of key) ≡ Ok key
key_again key is = key_some (word_of key) key (bytes_again (word_of key) key is.bytes refl) is.some is.short

pub bound_again : (bound : List ℕ) → IsBound bound → bound_at (word_of bound) ≡ Ok bound
bound_again bound is = bound_some (word_of bound) bound (bytes_again (word_of bound) bound is.bytes refl) is.short

pub value_again : (value : List ℕ) → IsValue value → value_at (word_of value) ≡ Ok value
value_again value is = value_some (word_of value) value (bytes_again (word_of value) value is.bytes refl) is.short

pub writes_again : (set : ℕ) → set < 2 ^ 64 → writes_at (writes_word set) ≡ Ok set
writes_again set fits = rw (set_again set (set_text set) fits refl) refl

pub reads_again : (set : ℕ) → set < 2 ^ 64 → (set == all_tables) ≡ false → reads_at (Some (codes "R=" ++ set_text set)) ≡ Ok set
reads_again set fits other = rw (set_again set (set_text set) fits refl, other) refl

-- ---- verbs

get_again : (table : ℕ) (key : List ℕ) → table < 64 → IsKey key → get_at (decimal_of table ∷ word_of key ∷ []) ≡ Ok (verbs.Do (Get table key))
unfolding get_at two
get_again table key low is = rw (table_again table low, key_again key is) refl

del_again : (table : ℕ) (key : List ℕ) → table < 64 → IsKey key → del_at (decimal_of table ∷ word_of key ∷ []) ≡ Ok (verbs.Do (Del table key))
unfolding del_at two
del_again table key low is = rw (table_again table low, key_again key is) refl

scan_again : (table : ℕ) (low high : List ℕ) → table < 64 → IsBound low → IsBound high → scan_at (decimal_of table ∷ word_of low ∷ word_of high ∷ []) ≡ Ok (verbs.Do (Scan table low high))
unfolding scan_at three
scan_again table low high small is is' = rw (table_again table small, bound_again low is, bound_again high is') refl

put_again : (table : ℕ) (key value : List ℕ) → table < 64 → IsKey key → IsValue value → put_at (decimal_of table ∷ word_of key ∷ word_of value ∷ []) ≡ Ok (verbs.Do (Put table key value))
unfolding put_at three
put_again table key value low is is' = rw (table_again table low, key_again key is, value_again value is') refl

long_again : (writes reads : ℕ) → writes < 2 ^ 64 → reads < 2 ^ 64 → long_at (writes_word writes ∷ reads_words reads) ≡ Ok (verbs.Long writes reads)
unfolding long_at one_or_two
long_again writes reads fits fits' = elim (cases_Bool (reads == all_tables)) [
  | inl e1 ↦ rw (e1, writes_again writes fits) (ap (λ s. Ok (verbs.Long writes s)) (sym (is_all reads e1)))
  | inr e0 ↦ rw (e0, writes_again writes fits, reads_again reads fits' e0) refl
]

pub asked_again : (verb : Verb) → IsVerb verb → asked_at (verb_words verb) ≡ Ok verb
unfolding verb_at
asked_again verbs.Short fits = refl
asked_again (verbs.Long writes reads) fits = long_again writes reads fits.0 fits.1
asked_again (verbs.Do (Get table key)) fits = get_again table key fits.0 fits.1
asked_again (verbs.Do (Scan table low high)) fits = scan_again table low high fits.0 fits.1 fits.2
asked_again (verbs.Do (Put table key value)) fits = put_again table key value fits.0 fits.1 fits.2
asked_again (verbs.Do (Del table key)) fits = del_again table key fits.0 fits.1
asked_again verbs.Commit fits = refl
asked_again verbs.Abort fits = refl

-- ---- commands

no_name : (session first : ℕ) (rest : List ℕ) → session ≤ 1024 → 58 ≤ first → bytes_eq (decimal_of session) (first ∷ rest) ≡ false
no_name session first rest low letter = other_bytes (decimal_of session) (first ∷ rest) (λ e.
    let digits = decimal_digits (first ∷ rest) session (omega (arith, low)) (sym e) in
    out (digit_from_value first digits.0.0))
  where
    out : IsInRange 48 57 first → ⊥
    out range = grind (arith, letter)

ask_again : (session : ℕ) (verb : Verb) → 0 < session → session ≤ 1024 → IsVerb verb → ask_at (decimal_of session) (verb_words verb) ≡ Ok (commands.Ask session verb)
unfolding ask_at
ask_again session verb some low fits = rw (session_again session some low, asked_again verb fits) refl

pub said_again : (command : Command) → IsCommand command → said_at (command_words command) ≡ Ok command
unfolding command_at
said_again commands.Epoch fits = refl
said_again commands.Flush fits = refl
said_again commands.Prune fits = refl
said_again (commands.Ask session verb) fits =
    rw (no_name session 101 (codes "poch") fits.1 (omega arith), no_name session 102 (codes "lush") fits.1 (omega arith), no_name session 112 (codes "rune") fits.1 (omega arith)) (ask_again session verb fits.0 fits.1 fits.2)

-- ---- each word of a command is one

reads_true : (reads : ℕ) → list_all is_word (reads_words reads) ≡ true
reads_true reads = elim (cases_Bool (reads == all_tables)) [
  | inl e1 ↦ rw e1 refl
  | inr e0 ↦ rw (e0, marked_word 82 reads refl) refl
]

verb_true : (verb : Verb) → IsVerb verb → list_all is_word (verb_words verb) ≡ true
verb_true verbs.Short fits = refl
verb_true (verbs.Long writes reads) fits = rw (marked_word 87 writes refl, reads_true reads) refl
verb_true (verbs.Do (Get table key)) fits = rw (decimal_word table (omega (arith, fits.0)), bytes_word key fits.1.bytes) refl
verb_true (verbs.Do (Scan table low high)) fits = rw (decimal_word table (omega (arith, fits.0)), bytes_word low fits.1.bytes, bytes_word high fits.2.bytes) refl
verb_true (verbs.Do (Put table key value)) fits = rw (decimal_word table (omega (arith, fits.0)), bytes_word key fits.1.bytes, bytes_word value fits.2.bytes) refl
verb_true (verbs.Do (Del table key)) fits = rw (decimal_word table (omega (arith, fits.0)), bytes_word key fits.1.bytes) refl
verb_true verbs.Commit fits = refl
verb_true verbs.Abort fits = refl

pub words_true : (command : Command) → IsCommand command → list_all is_word (command_words command) ≡ true
words_true commands.Epoch fits = refl
words_true commands.Flush fits = refl
words_true commands.Prune fits = refl
words_true (commands.Ask session verb) fits = rw (decimal_word session (omega (arith, fits.1)), verb_true verb fits.2) refl

words_back : (command : Command) → IsCommand command → words_of (joined (command_words command)) ≡ command_words command
words_back commands.Epoch fits = cut_joined (codes "epoch") [] refl
words_back commands.Flush fits = cut_joined (codes "flush") [] refl
words_back commands.Prune fits = cut_joined (codes "prune") [] refl
words_back (commands.Ask session verb) fits = cut_joined (decimal_of session) (verb_words verb) (words_true (commands.Ask session verb) fits)

-- ---- no command is longer than a line

decimal_short : (n : ℕ) → n ≤ 1024 → length (decimal_of n) ≤ 4
decimal_short n low = length-decimal-le 4 n (omega arith) (omega (arith, low)) (omega (arith, low))

byte_short : (b : ℕ) (rest : List ℕ) → length (byte_spelling b ++ rest) ≤ 3 + length rest
byte_short b rest = elim (cases_Bool (is_plain b)) [
  | inl p ↦ rw (plain_spelling b p) (omega arith)
  | inr p ↦ rw (escaped_spelling b p) (omega arith)
]

spellings_short : (bytes : List ℕ) → length (spellings bytes) ≤ 3 * length bytes
spellings_short [] = omega arith
spellings_short (b ∷ bytes) = omega (arith, byte_short b (spellings bytes), spellings_short bytes)

bytes_short : (bytes : List ℕ) → length (word_of bytes) ≤ 3 * length bytes + 1
bytes_short [] = omega arith
bytes_short (b ∷ bytes) = omega (arith, spellings_short (b ∷ bytes))

few : (least : ℕ) (ts : List ℕ) → least ≤ 64 → IsRisingFrom least ts → length ts + least ≤ 64
few least [] low rising = omega (arith, low)
few least (t ∷ ts) low rising = omega (arith, rising.0, few (t + 1) ts (omega (arith, rising.1)) rising.2)

commas_short : (least : ℕ) (ts : List ℕ) → IsRisingFrom least ts → length (commas ts) ≤ 5 * length ts
commas_short least [] rising = omega arith
commas_short least (t ∷ []) rising = omega (arith, decimal_short t (omega (arith, rising.1)))
commas_short least (t ∷ u ∷ ts) rising =
    omega (arith, length-append (decimal_of t) (44 ∷ commas (u ∷ ts)), decimal_short t (omega (arith, rising.1)), commas_short (t + 1) (u ∷ ts) rising.2)

tables_short : (ts : List ℕ) → IsRisingFrom 0 ts → length (tables_text ts) ≤ 320
tables_short [] rising = omega arith
tables_short (t ∷ ts) rising = omega (arith, commas_short 0 (t ∷ ts) rising, few 0 (t ∷ ts) (omega arith) rising)

set_short : (set : ℕ) → length (set_text set) ≤ 320
set_short set = elim (cases_Bool (set == all_tables)) [
  | inl e1 ↦ let all : length (set_text set) ≡ 1 = ap (λ s. length (set_text s)) (is_all set e1) ∙ ap length all_text in omega (arith, all)
  | inr e0 ↦ let same : length (set_text set) ≡ length (tables_text (tables_of set)) = ap length (other_text set e0) in omega (arith, same, tables_short (tables_of set) (tables_rise set))
]

-- the length of words joined by spaces, with one space more
abbrev total : List (List ℕ) → ℕ
total [] = 0
total (word ∷ words) = length word + 1 + total words

joined_total : (words : List (List ℕ)) → length (joined words) ≤ total words
joined_total [] = omega arith
joined_total (word ∷ []) = omega arith
joined_total (word ∷ next ∷ words) = omega (arith, length-append word (32 ∷ joined (next ∷ words)), joined_total (next ∷ words))

reads_short : (reads : ℕ) → total (reads_words reads) ≤ 323
reads_short reads = elim (cases_Bool (reads == all_tables)) [
  | inl e1 ↦ rw e1 (omega arith)
  | inr e0 ↦ rw e0 (omega (arith, set_short reads))
]

verb_short : (verb : Verb) → IsVerb verb → total (verb_words verb) ≤ 4000
verb_short verbs.Short fits = omega arith
verb_short (verbs.Long writes reads) fits = omega (arith, set_short writes, reads_short reads)
verb_short (verbs.Do (Get table key)) fits = omega (arith, decimal_short table (omega (arith, fits.0)), bytes_short key, fits.1.short)
verb_short (verbs.Do (Scan table low high)) fits = omega (arith, decimal_short table (omega (arith, fits.0)), bytes_short low, fits.1.short, bytes_short high, fits.2.short)
verb_short (verbs.Do (Put table key value)) fits = omega (arith, decimal_short table (omega (arith, fits.0)), bytes_short key, fits.1.short, bytes_short value, fits.2.short)
verb_short (verbs.Do (Del table key)) fits = omega (arith, decimal_short table (omega (arith, fits.0)), bytes_short key, fits.1.short)
verb_short verbs.Commit fits = omega arith
verb_short verbs.Abort fits = omega arith

command_short : (command : Command) → IsCommand command → total (command_words command) ≤ 4096
command_short commands.Epoch fits = omega arith
command_short commands.Flush fits = omega arith
command_short commands.Prune fits = omega arith
command_short (commands.Ask session verb) fits = omega (arith, decimal_short session fits.1, verb_short verb fits.2)

pub reading_again : (command : Command) → IsCommand command → reading (command_text command) ≡ Ok command
unfolding reading command_text
reading_again command fits =
    let short : nat_lt most_bytes (length (joined (command_words command))) ≡ false
    = le-ltb 4096 (length (joined (command_words command))) (omega (arith, joined_total (command_words command), command_short command fits)) in
    rw (short, words_back command fits, words_true command fits) (said_again command fits)

pub spelt_again : (line : List ℕ) (command : Command) → IsCommand command → line ≡ command_text command → reading line ≡ Ok command
spelt_again line command fits is = ap reading is ∙ reading_again command fits

pub one_command : (a b : Command) → IsCommand a → IsCommand b → command_text a ≡ command_text b → a ≡ b
one_command a b first second same = ok_is a b (sym (reading_again a first) ∙ spelt_again (command_text a) b second same)

pub fits_a_line : (command : Command) → IsCommand command → length (command_text command) ≤ most_bytes
unfolding command_text
fits_a_line command fits = omega (arith, joined_total (command_words command), command_short command fits)
