use Rattle.ltx_laws.proofs.ClosedEpochs.{rows_over}
use Rattle.ltx_laws.proofs.closed_epochs.closed_epochs_keep_their_rows.Goals as goal

pub returns : goal.returns
returns c = rows_over
