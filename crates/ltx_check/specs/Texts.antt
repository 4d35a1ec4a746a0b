-- What a transcript is made of: a line for each entry, and two last lines.
use Rattle.std.specs.Prelude.{◌≡◌, ℕ, List, ◌∷◌, ◌++◌, flat_map, codes}
use Rattle.std.specs.List.{AllByRecursion}
use Rattle.ltx_model.specs.declared.commands.Line.{Line}
use Rattle.ltx_model.specs.declared.commands.Line.TheVariants as lines
use Rattle.ltx_model.specs.declared.replies.Entry.{Entry}
use Rattle.ltx_model.specs.declared.replies.Reply.{Reply}
use Rattle.ltx_model.specs.declared.replies.Reply.TheVariants as replies
use Rattle.ltx_text.specs.Decimals.{decimal_of}
use Rattle.ltx_script.specs.Commands.{command_text, IsCommand}
use Rattle.ltx_reply.specs.Texts.{reply_text, IsReply, IsWithinLimits}
use Rattle.ltx_model.specs.Limits.{IsTx}

-- a line as it is printed: the spelling of its command, or `?` for a malformed one
abbrev pub line_text : Line → List ℕ
line_text (lines.Good command) = command_text command
line_text (lines.Bad cause) = codes "?"

-- an entry without its line feed: the line, ` => ` and the reply
abbrev pub entry_line : Entry → List ℕ
entry_line entry = line_text entry.line ++ codes " => " ++ reply_text entry.reply

-- A command has any reply whose parts are within their limits. A malformed line has the cause that its reply names.
abbrev pub IsAnswered : Line → Reply → Type 0
IsAnswered (lines.Good command) reply = IsCommand command × IsReply reply × IsWithinLimits reply
IsAnswered (lines.Bad cause) reply = reply ≡ replies.Bad cause

-- a line and a reply that a transcript may hold
abbrev pub IsEntry : Entry → Type 0
IsEntry entry = IsAnswered entry.line entry.reply

-- entries that a transcript may hold
abbrev pub AreEntries : List Entry → Type 0
AreEntries history = AllByRecursion IsEntry history

-- a number after a space
abbrev pub spaced_number : ℕ → List ℕ
spaced_number n = 32 ∷ decimal_of n

-- numbers, each after a space
abbrev pub numbers_text : List ℕ → List ℕ
numbers_text numbers = flat_map spaced_number numbers

-- the serial order, without its line feed
abbrev pub order_line : List ℕ → List ℕ
order_line order = codes "order" ++ numbers_text order

-- the durable epoch, without its line feed
abbrev pub durable_line : ℕ → List ℕ
durable_line epoch = codes "durable" ++ spaced_number epoch

-- numbers of transactions
abbrev pub AreTxs : List ℕ → Type 0
AreTxs numbers = AllByRecursion IsTx numbers
