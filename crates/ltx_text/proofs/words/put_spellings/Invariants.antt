use Rattle.std.proofs.Common.{◌≡◌, ◌++◌, take}
use Rattle.ltx_text.specs.Words.{spellings}
use Rattle.ltx_text.proofs.words.put_spellings.Given as goal

-- what stands at the end are the spellings so far
abbrev pub invariant-loop-byte : goal.invariant-loop-byte
invariant-loop-byte l = (l.out.items ≡ l.initial.out.items ++ spellings (take l.byte-index l.bytes))
