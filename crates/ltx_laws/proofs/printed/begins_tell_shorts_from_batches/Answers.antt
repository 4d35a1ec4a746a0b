use Rattle.ltx_laws.proofs.PrintedCommits.{slot_printed, slotted_printed, short_has_none, begun_once, committed_began, committed_batch_slotted}
use Rattle.ltx_laws.proofs.printed.begins_tell_shorts_from_batches.Goals as goal

pub returns : goal.returns
returns c = record { slot = slot_printed; slotted = slotted_printed; unslotted = short_has_none; one = begun_once; committed = committed_began; batch = committed_batch_slotted }
