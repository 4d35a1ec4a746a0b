use Rattle.ltx_core.proofs.PendingSlots.{IsKeeping}
use Rattle.ltx_core.proofs.epoch.keep_slots.Given as goal

-- the batches before this place have their slots
abbrev pub invariant-loop-place : goal.invariant-loop-place
invariant-loop-place l = IsKeeping l.fn.events l.events l.preserve l.place
