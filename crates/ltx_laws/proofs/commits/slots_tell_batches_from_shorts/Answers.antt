use Rattle.ltx_laws.proofs.SlotsKept.{batch_slotted, short_unslotted, pending_waits}
use Rattle.ltx_laws.proofs.commits.slots_tell_batches_from_shorts.Goals as goal

pub returns : goal.returns
returns c = record { batch = batch_slotted; short = short_unslotted; pending = pending_waits }
