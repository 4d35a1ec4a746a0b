-- What a run reads, and what it prints.
use Rattle.std.specs.Prelude.{ℕ, List, [], ◌∷◌, ◌++◌, map, flat_map, codes, Option, Some, None}
use Rattle.ltx_model.specs.declared.commands.Bad.TheVariants as causes
use Rattle.ltx_model.specs.declared.commands.Line.{Line}
use Rattle.ltx_model.specs.declared.commands.Line.TheVariants as lines
use Rattle.ltx_model.specs.declared.replies.Entry.{Entry}
use Rattle.ltx_model.specs.States.{State, order}
use Rattle.ltx_text.specs.Decimals.{decimal_of}
use Rattle.ltx_text.specs.Lines.{pieces_of}
use Rattle.ltx_script.specs.Commands.{command_text}
use Rattle.ltx_script.specs.Lines.{line_of}
use Rattle.ltx_reply.specs.Texts.{reply_text}

-- a line of a script: what its bytes spell, or a malformed one where there are too many
abbrev pub line_of_piece : Option (List ℕ) → Line
line_of_piece None = lines.Bad causes.Long
line_of_piece (Some bytes) = line_of bytes

-- the lines of a script, in order
abbrev pub script_lines : List ℕ → List Line
script_lines bytes = map line_of_piece (pieces_of bytes)

-- a line as it is printed: the spelling of its command, or `?` for a malformed one
abbrev pub line_text : Line → List ℕ
line_text (lines.Good command) = command_text command
line_text (lines.Bad cause) = codes "?"

-- an entry as it is printed: the line, ` => `, the reply and a line feed
unfoldable pub entry_text : Entry → List ℕ
entry_text entry = line_text entry.line ++ codes " => " ++ reply_text entry.reply ++ 10 ∷ []

-- a history as it is printed: its entries, one after another
abbrev pub history_text : List Entry → List ℕ
history_text history = flat_map entry_text history

-- a number after a space
abbrev pub spaced_number : ℕ → List ℕ
spaced_number n = 32 ∷ decimal_of n

-- the last two lines: the serial order, and the durable epoch
unfoldable pub ending : List ℕ → ℕ → List ℕ
ending order durable = codes "order" ++ flat_map spaced_number order ++ 10 ∷ codes "durable" ++ spaced_number durable ++ 10 ∷ []

-- the last two lines in a state
abbrev pub ending_of : State → List ℕ
ending_of s = ending (order s) s.durable
