use Rattle.std.proofs.Common.{◌≡◌, ◌++◌, map, take, drop}
use Rattle.ltx_model.specs.Holders.{live_from_now}
use Rattle.ltx_preserve.proofs.preserve.make_live.Given as goal

abbrev pub invariant-loop-batch : goal.invariant-loop-batch
invariant-loop-batch l = l.entered ≡ map live_from_now (take l.batch-index l.fn.entered) ++ drop l.batch-index l.fn.entered
