use Rattle.std.proofs.Common.{length}
use Rattle.ltx_check.proofs.Numbers.{Numbering}
use Rattle.ltx_check.proofs.words.read_numbers.Given as goal

abbrev pub invariant-loop-rest : goal.invariant-loop-rest
invariant-loop-rest l = Numbering l.fn.text l.rest l.numbers.items

abbrev pub decreases-loop-rest : goal.decreases-loop-rest
decreases-loop-rest l = length l.rest
