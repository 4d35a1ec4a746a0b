use Rattle.std.proofs.Common.{length}
use Rattle.ltx_check.proofs.ReadingLemmas.{ReadsOn}
use Rattle.ltx_check.proofs.reading.read_entries.Given as goal

abbrev pub invariant-loop-fault : goal.invariant-loop-fault
invariant-loop-fault l = ReadsOn l.fn.text l.rest l.entries.items

abbrev pub decreases-loop-fault : goal.decreases-loop-fault
decreases-loop-fault l = length l.rest
