use Rattle.std.proofs.Common.{take}
use Rattle.ltx_preserve.specs.Kept.{IsKept}
use Rattle.ltx_preserve.proofs.preserve.least_holder.Given as goal

abbrev pub invariant-loop-batch : goal.invariant-loop-batch
invariant-loop-batch l = IsKept (take l.batch-index l.entered) l.table l.least
