-- Lines that were read, and the bytes that spell them.
use Rattle.std.specs.Prelude.{◌≡◌, ℕ, List, Ok, map}
use Rattle.ltx_model.specs.declared.commands.Line.{Line}
use Rattle.ltx_model.specs.declared.commands.Line.TheVariants as lines
use Rattle.ltx_text.specs.declared.piece.Piece.{Piece}
use Rattle.ltx_text.specs.Pieces.{given}
use Rattle.ltx_script.specs.Commands.{command_text}
use Rattle.ltx_top.specs.Transcripts.{line_of_piece}

-- the command of a line, if it has one, is spelt by these bytes
abbrev pub IsSpelt : Line → List ℕ → Type 0
IsSpelt (lines.Good command) bytes = bytes ≡ command_text command
IsSpelt (lines.Bad cause) bytes = Unit {0}

-- the line that a piece is, or none at the end
abbrev pub lines_in : Piece → List Line
lines_in piece = map line_of_piece (given (Ok piece))
