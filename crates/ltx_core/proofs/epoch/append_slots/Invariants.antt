use Rattle.ltx_core.proofs.PendingSlots.{IsAppending}
use Rattle.ltx_core.proofs.epoch.append_slots.Given as goal

-- the batches before this place have their slots
abbrev pub invariant-loop-place : goal.invariant-loop-place
invariant-loop-place l = IsAppending l.fn.agenda.list l.fn.agenda.room l.agenda.list l.agenda.room l.preserve l.place
