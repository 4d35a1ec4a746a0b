use Rattle.std.proofs.Common.{◌≡◌, ◌++◌, length}
use Rattle.ltx_text.specs.Words.{spellings}
use Rattle.ltx_text.proofs.words.read_spellings.Given as goal

-- the text is the spellings of the bytes so far, and the rest
abbrev pub invariant-loop-rest : goal.invariant-loop-rest
invariant-loop-rest l = l.text ≡ spellings l.bytes.items ++ l.rest

abbrev pub decreases-loop-rest : goal.decreases-loop-rest
decreases-loop-rest l = length l.rest
