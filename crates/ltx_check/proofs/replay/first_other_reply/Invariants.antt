use Rattle.std.proofs.Common.{take}
use Rattle.ltx_check.proofs.Replaying.{Replayed}
use Rattle.ltx_check.proofs.replay.first_other_reply.Given as goal

abbrev pub invariant-loop-tx : goal.invariant-loop-tx
invariant-loop-tx l = Replayed l.entries (take l.tx-index l.order) l.rows l.first
