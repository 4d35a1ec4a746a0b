-- The spelling of each command: words of visible bytes with one space between two.
use Rattle.std.specs.Prelude.{ℕ, ◌<◌, ◌≤◌, ◌^◌, ◌==◌, if◌then◌else◌, List, [], ◌∷◌, ◌++◌, filter, map, codes}
use Rattle.std.specs.List.{range_with_len, join_with_byte}
use Rattle.ltx_model.specs.declared.commands.Op.{Op}
use Rattle.ltx_model.specs.declared.commands.Op.TheVariants.{Get, Scan, Put, Del}
use Rattle.ltx_model.specs.declared.commands.Verb.{Verb}
use Rattle.ltx_model.specs.declared.commands.Verb.TheVariants as verbs
use Rattle.ltx_model.specs.declared.commands.Command.{Command}
use Rattle.ltx_model.specs.declared.commands.Command.TheVariants as commands
use Rattle.ltx_model.specs.Tables.{has_table, all_tables}
use Rattle.ltx_text.specs.Words.{word_of}
use Rattle.ltx_model.specs.Limits.{last_session, IsTable, IsKey, IsBound, IsValue}
use Rattle.ltx_text.specs.Decimals.{decimal_of}

-- words with one space between two
abbrev pub joined : List (List ℕ) → List ℕ
joined words = join_with_byte 32 words

-- numbers with a comma between two
abbrev pub commas : List ℕ → List ℕ
commas numbers = join_with_byte 44 (map decimal_of numbers)

-- the tables of a set, rising
unfoldable pub tables_of : ℕ → List ℕ
tables_of set = filter (has_table set) (range_with_len 0 64)

-- tables with a comma between two, or `-` where there are none
abbrev pub tables_text : List ℕ → List ℕ
tables_text [] = codes "-"
tables_text (t ∷ ts) = commas (t ∷ ts)

-- a set of tables: `*` for all of them, else its tables
unfoldable pub set_text : ℕ → List ℕ
set_text set = if set == all_tables then codes "*" else tables_text (tables_of set)

-- the area that a batch writes
abbrev pub writes_word : ℕ → List ℕ
writes_word writes = codes "W=" ++ set_text writes

-- the area that a batch reads, where it is not all tables
abbrev pub reads_words : ℕ → List (List ℕ)
reads_words reads = if reads == all_tables then [] else (codes "R=" ++ set_text reads) ∷ []

-- the words of an operation
abbrev pub operation_words : Op → List (List ℕ)
operation_words (Get table key) = codes "get" ∷ decimal_of table ∷ word_of key ∷ []
operation_words (Scan table low high) = codes "scan" ∷ decimal_of table ∷ word_of low ∷ word_of high ∷ []
operation_words (Put table key value) = codes "put" ∷ decimal_of table ∷ word_of key ∷ word_of value ∷ []
operation_words (Del table key) = codes "del" ∷ decimal_of table ∷ word_of key ∷ []

-- the words of what a session asks
abbrev pub verb_words : Verb → List (List ℕ)
verb_words verbs.Short = codes "short" ∷ []
verb_words (verbs.Long writes reads) = codes "long" ∷ writes_word writes ∷ reads_words reads
verb_words (verbs.Do op) = operation_words op
verb_words verbs.Commit = codes "commit" ∷ []
verb_words verbs.Abort = codes "abort" ∷ []

-- the words of a command
abbrev pub command_words : Command → List (List ℕ)
command_words commands.Epoch = codes "epoch" ∷ []
command_words commands.Flush = codes "flush" ∷ []
command_words commands.Prune = codes "prune" ∷ []
command_words (commands.Ask session verb) = decimal_of session ∷ verb_words verb

-- the spelling of a command
unfoldable pub command_text : Command → List ℕ
command_text command = joined (command_words command)

-- an operation on one of the 64 tables, its parts within their limits
abbrev pub IsOperation : Op → Type 0
IsOperation (Get table key) = IsTable table × IsKey key
IsOperation (Scan table low high) = IsTable table × IsBound low × IsBound high
IsOperation (Put table key value) = IsTable table × IsKey key × IsValue value
IsOperation (Del table key) = IsTable table × IsKey key

-- a verb whose parts are within their limits
abbrev pub IsVerb : Verb → Type 0
IsVerb (verbs.Long writes reads) = (writes < 2 ^ 64) × (reads < 2 ^ 64)
IsVerb (verbs.Do op) = IsOperation op
IsVerb verb = Unit {0}

-- a command whose parts are within their limits
abbrev pub IsCommand : Command → Type 0
IsCommand (commands.Ask session verb) = (0 < session) × (session ≤ last_session) × IsVerb verb
IsCommand command = Unit {0}
