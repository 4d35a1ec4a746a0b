use Rattle.ltx_laws.proofs.SlotEpochs.{pending_next, live_slotted}
use Rattle.ltx_laws.proofs.states.batches_become_live_in_their_epoch.Goals as goal

pub returns : goal.returns
returns c = record { pending = pending_next; live = live_slotted }
