use Rattle.ltx_laws.proofs.ClosedEpochs.{acknowledged_up_to}
use Rattle.ltx_laws.proofs.closed_epochs.acknowledged_epochs_are_durable.Goals as goal

pub returns : goal.returns
returns c = acknowledged_up_to
