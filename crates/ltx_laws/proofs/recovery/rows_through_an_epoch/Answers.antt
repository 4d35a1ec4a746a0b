use Rattle.ltx_laws.proofs.DropsFrames.{writes_through, base_through, closed_over}
use Rattle.ltx_laws.proofs.recovery.rows_through_an_epoch.Goals as goal

pub returns : goal.returns
returns c = record { writes = writes_through; first = base_through; closed = closed_over }
