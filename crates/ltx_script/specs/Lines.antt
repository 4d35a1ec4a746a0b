-- Reading a line: the command with this spelling, or the first cause why there is none.
use Rattle.std.specs.Prelude.{◌≡◌, ℕ, ◌+◌, Bool, ◌==◌, ◌&&◌, nat_lt, if◌then◌else◌, List, [], ◌∷◌, length, take, drop, Option, Some, None, Result, Ok, Err, ok_or, filter_map, fold, codes, bytes_eq}
use Rattle.std.specs.List.{list_all}
use Rattle.ltx_model.specs.declared.commands.Op.TheVariants.{Get, Scan, Put, Del}
use Rattle.ltx_model.specs.declared.commands.Verb.{Verb}
use Rattle.ltx_model.specs.declared.commands.Verb.TheVariants as verbs
use Rattle.ltx_model.specs.declared.commands.Command.{Command}
use Rattle.ltx_model.specs.declared.commands.Command.TheVariants as commands
use Rattle.ltx_model.specs.declared.commands.Bad.{Bad}
use Rattle.ltx_model.specs.declared.commands.Bad.TheVariants as causes
use Rattle.ltx_model.specs.declared.commands.Line.{Line}
use Rattle.ltx_model.specs.declared.commands.Line.TheVariants as lines
use Rattle.ltx_model.specs.Limits.{table_count, last_session, key_limit, bound_limit, value_limit}
use Rattle.ltx_model.specs.Tables.{all_tables, no_tables, with_table}
use Rattle.ltx_text.specs.Readings.{bytes_of}
use Rattle.ltx_text.specs.Words.{is_visible}
use Rattle.ltx_text.specs.Cuts.{cut_at, words_of}
use Rattle.ltx_text.specs.Decimals.{number_in}
use Rattle.ltx_script.specs.Commands.{set_text}

-- ---- words

-- a word is one or more visible bytes
abbrev pub is_word : List ℕ → Bool
is_word word = nat_lt 0 (length word) && list_all is_visible word

-- ---- values and their spellings

-- a byte string, where it is no longer than this
abbrev pub within : ℕ → Option (List ℕ) → Option (List ℕ)
within most None = None
within most (Some bytes) = if nat_lt most (length bytes) then None else Some bytes

-- a byte string, where it is not empty
abbrev pub unless_empty : Option (List ℕ) → Option (List ℕ)
unless_empty None = None
unless_empty (Some []) = None
unless_empty (Some (b ∷ bytes)) = Some (b ∷ bytes)

-- the set of the tables that are named between commas
abbrev pub named_tables : List ℕ → ℕ
named_tables text = fold with_table no_tables (filter_map (number_in 0 table_count) (cut_at 44 text))

-- the set of tables with this spelling
unfoldable pub set_of : List ℕ → Option ℕ
set_of text =
    if bytes_eq text (codes "*") then Some all_tables
    else if bytes_eq (set_text (named_tables text)) text then Some (named_tables text)
    else None

-- the set behind a mark of two bytes
abbrev pub marked : List ℕ → List ℕ → Option ℕ
marked mark word = if bytes_eq (take 2 word) mark then set_of (drop 2 word) else None

-- a set of tables that is not all of them
abbrev pub unless_all : Option ℕ → Option ℕ
unless_all None = None
unless_all (Some set) = if set == all_tables then None else Some set

-- ---- arguments, each with the cause where it is no spelling

infixl 10 ◌>>=◌
-- what follows a step that was no refusal
abbrev pub ◌>>=◌ : {A B : Type 0} → Result A Bad → (A → Result B Bad) → Result B Bad
(Ok x) >>= f = f x
(Err cause) >>= f = Err cause

abbrev pub session_at : List ℕ → Result ℕ Bad
session_at word = ok_or (number_in 1 (last_session + 1) word) causes.Session

abbrev pub table_at : List ℕ → Result ℕ Bad
table_at word = ok_or (number_in 0 table_count word) causes.Table

abbrev pub key_at : List ℕ → Result (List ℕ) Bad
key_at word = ok_or (unless_empty (within key_limit (bytes_of word))) causes.Key

abbrev pub bound_at : List ℕ → Result (List ℕ) Bad
bound_at word = ok_or (within bound_limit (bytes_of word)) causes.Key

abbrev pub value_at : List ℕ → Result (List ℕ) Bad
value_at word = ok_or (within value_limit (bytes_of word)) causes.Value

-- the area that a batch writes
abbrev pub writes_at : List ℕ → Result ℕ Bad
writes_at word = ok_or (marked (codes "W=") word) causes.Sets

-- the area that a batch reads: all tables, where it is not said
abbrev pub reads_at : Option (List ℕ) → Result ℕ Bad
reads_at None = Ok all_tables
reads_at (Some word) = ok_or (unless_all (marked (codes "R=") word)) causes.Sets

-- ---- verbs, each with the number of its arguments

-- no argument
abbrev pub alone : {X : Type 0} → List (List ℕ) → X → Result X Bad
alone [] x = Ok x
alone (word ∷ words) x = Err causes.Words

-- the next word and those behind it
abbrev pub next_word : List (List ℕ) → Result (List ℕ × List (List ℕ)) Bad
next_word [] = Err causes.Words
next_word (word ∷ words) = Ok (word, words)

abbrev pub at_most_one : List (List ℕ) → Result (Option (List ℕ)) Bad
at_most_one [] = Ok None
at_most_one (word ∷ words) = alone words (Some word)

-- one word, and maybe a second one
unfoldable pub one_or_two : List (List ℕ) → Result (List ℕ × Option (List ℕ)) Bad
one_or_two words = do
  first ← next_word words
  second ← at_most_one first.1
  Ok (first.0, second)

-- two words
unfoldable pub two : List (List ℕ) → Result (List ℕ × List ℕ) Bad
two words = do
  first ← next_word words
  second ← next_word first.1
  alone second.1 (first.0, second.0)

-- three words
unfoldable pub three : List (List ℕ) → Result (List ℕ × List ℕ × List ℕ) Bad
three words = do
  first ← next_word words
  second ← next_word first.1
  third ← next_word second.1
  alone third.1 (first.0, second.0, third.0)

unfoldable pub long_at : List (List ℕ) → Result Verb Bad
long_at arguments = do
  words ← one_or_two arguments
  writes ← writes_at words.0
  reads ← reads_at words.1
  Ok (verbs.Long writes reads)

unfoldable pub get_at : List (List ℕ) → Result Verb Bad
get_at arguments = do
  words ← two arguments
  table ← table_at words.0
  key ← key_at words.1
  Ok (verbs.Do (Get table key))

unfoldable pub scan_at : List (List ℕ) → Result Verb Bad
scan_at arguments = do
  words ← three arguments
  table ← table_at words.0
  low ← bound_at words.1
  high ← bound_at words.2
  Ok (verbs.Do (Scan table low high))

unfoldable pub put_at : List (List ℕ) → Result Verb Bad
put_at arguments = do
  words ← three arguments
  table ← table_at words.0
  key ← key_at words.1
  value ← value_at words.2
  Ok (verbs.Do (Put table key value))

unfoldable pub del_at : List (List ℕ) → Result Verb Bad
del_at arguments = do
  words ← two arguments
  table ← table_at words.0
  key ← key_at words.1
  Ok (verbs.Do (Del table key))

-- a verb and its arguments
unfoldable pub verb_at : List ℕ → List (List ℕ) → Result Verb Bad
verb_at word arguments =
    if bytes_eq word (codes "short") then alone arguments verbs.Short
    else if bytes_eq word (codes "long") then long_at arguments
    else if bytes_eq word (codes "get") then get_at arguments
    else if bytes_eq word (codes "scan") then scan_at arguments
    else if bytes_eq word (codes "put") then put_at arguments
    else if bytes_eq word (codes "del") then del_at arguments
    else if bytes_eq word (codes "commit") then alone arguments verbs.Commit
    else if bytes_eq word (codes "abort") then alone arguments verbs.Abort
    else Err causes.Verb

-- what is said behind a session
abbrev pub asked_at : List (List ℕ) → Result Verb Bad
asked_at [] = Err causes.Verb
asked_at (word ∷ arguments) = verb_at word arguments

unfoldable pub ask_at : List ℕ → List (List ℕ) → Result Command Bad
ask_at word words = do
  session ← session_at word
  verb ← asked_at words
  Ok (commands.Ask session verb)

-- the command of this first word and the words behind it
unfoldable pub command_at : List ℕ → List (List ℕ) → Result Command Bad
command_at word words =
    if bytes_eq word (codes "epoch") then alone words commands.Epoch
    else if bytes_eq word (codes "flush") then alone words commands.Flush
    else if bytes_eq word (codes "prune") then alone words commands.Prune
    else ask_at word words

abbrev pub said_at : List (List ℕ) → Result Command Bad
said_at [] = Err causes.Words
said_at (word ∷ words) = command_at word words

-- ---- lines

-- the longest line, in bytes
abbrev pub most_bytes : ℕ
most_bytes = 4096

unfoldable pub reading : List ℕ → Result Command Bad
reading line =
    if nat_lt most_bytes (length line) then Err causes.Long
    else if list_all is_word (words_of line) then said_at (words_of line)
    else Err causes.Words

abbrev pub line_from : Result Command Bad → Line
line_from (Ok command) = lines.Good command
line_from (Err cause) = lines.Bad cause

-- what a line says
unfoldable pub line_of : List ℕ → Line
line_of line = line_from (reading line)

-- the line says no command, for this cause
abbrev pub SaysBad : List ℕ → Bad → Type 0
SaysBad line cause = line_of line ≡ lines.Bad cause

-- a fact of the command of a line, if it has one
abbrev pub IfGood : Line → (Command → Type 0) → Type 0
IfGood (lines.Good command) P = P command
IfGood (lines.Bad cause) P = Unit {0}

-- a fact of the cause of a line that has no command
abbrev pub IfBad : Line → (Bad → Type 0) → Type 0
IfBad (lines.Good command) P = Unit {0}
IfBad (lines.Bad cause) P = P cause
