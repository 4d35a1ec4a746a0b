use Rattle.ltx_model.proofs.OneMore.{run-append}
use Rattle.ltx_lemmas.proofs.Runs.{inserted}
use Rattle.ltx_lemmas.proofs.serial_runs.joined_runs.Goals as goal

pub returns : goal.returns
returns c = record { rows = run-append; inside = inserted }
