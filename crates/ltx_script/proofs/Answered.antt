-- What is answered to a line, by how it was read: its words are tested only where they are no command's.
use Rattle.std.proofs.Common.{◌≡◌, ℕ, ◌<◌, ◌≤◌, true, List, ◌∷◌, length, Result, Ok, Err, refl, sym, ap, ◌∙◌, inl, inr}
use Rattle.std.specs.List.{list_all}
use Rattle.std.proofs.lemmas.Bool.{cases_Bool, le-ltb, lt-ltb}
use Rattle.ltx_model.specs.declared.commands.Command.{Command}
use Rattle.ltx_model.specs.declared.commands.Bad.{Bad}
use Rattle.ltx_model.specs.declared.commands.Bad.TheVariants as causes
use Rattle.ltx_model.specs.declared.commands.Line.{Line}
use Rattle.ltx_model.specs.declared.commands.Line.TheVariants as lines
use Rattle.ltx_script.specs.Commands.{IsCommand, command_text}
use Rattle.ltx_script.specs.Causes.{IsCause}
use Rattle.ltx_script.specs.Lines.{is_word, command_at, said_at, most_bytes, reading, line_from, line_of, IfGood, IfBad}
use Rattle.ltx_text.specs.Cuts.{words_of}
use Rattle.ltx_script.specs.Readers.{first_cause}
use Rattle.ltx_script.proofs.Readings.{said_is, reading_is}
use Rattle.ltx_script.proofs.Spelt.{words_true, spelt_again}
use Rattle.ltx_script.proofs.Refused.{reading_cause}

-- what is said of the answer to a line
pub record IsAnswer (line : List ℕ) (said : Line) : Type 0 where
  pub found : IfGood said (λ command. IsCommand command × (line ≡ command_text command))
  pub cause : IfBad said (λ cause. IsCause line cause)
  pub again : (command : Command) → IsCommand command → line ≡ command_text command → said ≡ lines.Good command
  pub exact : said ≡ line_of line

is_answer : (line : List ℕ) (read : Result Command Bad) → reading line ≡ read → IsAnswer line (line_from read)
unfolding line_of
is_answer line (Ok command) e = let s = reading_is line command e in record {
  found = (s.fits, s.is);
  cause = tt;
  again = λ other fits is. ap line_from (sym e ∙ spelt_again line other fits is);
  exact = ap line_from (sym e);
}
is_answer line (Err cause) e = record {
  found = tt;
  cause = reading_cause line cause e;
  again = λ other fits is. ap line_from (sym e ∙ spelt_again line other fits is);
  exact = ap line_from (sym e);
}

-- what is read as a command is words
are_words : (words : List (List ℕ)) (command : Command) → said_at words ≡ Ok command → list_all is_word words ≡ true
are_words words command e = let s = said_is words command e in ap (list_all is_word) s.are ∙ words_true command s.fits

-- ---- how a line reads

reads_long : (line : List ℕ) → most_bytes < length line → reading line ≡ Err causes.Long
unfolding reading
reads_long line long = rw (lt-ltb most_bytes (length line) long) refl

reads_good : (line : List ℕ) (command : Command) → length line ≤ most_bytes → said_at (words_of line) ≡ Ok command → reading line ≡ Ok command
unfolding reading
reads_good line command short said = rw (le-ltb most_bytes (length line) short, are_words (words_of line) command said) said

reads_bad : (line : List ℕ) (cause : Bad) → length line ≤ most_bytes → said_at (words_of line) ≡ Err cause → reading line ≡ Err (first_cause line cause)
unfolding reading
reads_bad line cause short said = elim (cases_Bool (list_all is_word (words_of line))) [
  | inl words ↦ rw (le-ltb most_bytes (length line) short, words, said) refl
  | inr other ↦ rw (le-ltb most_bytes (length line) short, other) refl
]

-- ---- what is answered

pub long_answer : (line : List ℕ) → most_bytes < length line → IsAnswer line (lines.Bad causes.Long)
long_answer line long = is_answer line (Err causes.Long) (reads_long line long)

pub good_answer : (line word : List ℕ) (words : List (List ℕ)) (command : Command) → length line ≤ most_bytes → words_of line ≡ word ∷ words
    → command_at word words ≡ Ok command → IsAnswer line (lines.Good command)
good_answer line word words command short parts said = is_answer line (Ok command) (reads_good line command short (ap said_at parts ∙ said))

pub bad_answer : (line word : List ℕ) (words : List (List ℕ)) (cause first : Bad) → length line ≤ most_bytes → words_of line ≡ word ∷ words
    → command_at word words ≡ Err cause → first ≡ first_cause line cause → IsAnswer line (lines.Bad first)
bad_answer line word words cause first short parts said is = is_answer line (Err first) (reads_bad line cause short (ap said_at parts ∙ said) ∙ ap (λ (c : Bad). Err c) (sym is))

-- what is printed is read again
pub read_back : (command : Command) → IsCommand command → line_of (command_text command) ≡ lines.Good command
unfolding line_of
read_back command fits = ap line_from (spelt_again (command_text command) command fits refl)
