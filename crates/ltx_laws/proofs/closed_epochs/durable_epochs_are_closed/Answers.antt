use Rattle.ltx_laws.proofs.DurableReplies.{durable_closed}
use Rattle.ltx_laws.proofs.ClosedEpochs.{durable_least, durable_over, epoch_over}
use Rattle.ltx_laws.proofs.closed_epochs.durable_epochs_are_closed.Goals as goal

pub returns : goal.returns
returns c = record { closed = durable_closed; least = durable_least; durable = durable_over; epoch = epoch_over }
