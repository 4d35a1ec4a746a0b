use Rattle.std.proofs.Common.{◌≡◌, drop}
use Rattle.std.specs.List.{list_all}
use Rattle.ltx_script.specs.Lines.{is_word}
use Rattle.ltx_text.specs.Cuts.{words_of}
use Rattle.ltx_script.proofs.Parts.{are_rest}
use Rattle.ltx_script.proofs.cuts.are_words.Given as goal

-- the line is words where what is left of it goes on as words
abbrev pub invariant-loop-byte : goal.invariant-loop-byte
invariant-loop-byte l = (list_all is_word (words_of l.line) ≡ are_rest l.in_word (words_of (drop l.byte-index l.line)))
