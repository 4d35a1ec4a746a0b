use Rattle.ltx_lemmas.proofs.Rising.{same_rows, rising_run}
use Rattle.ltx_lemmas.proofs.serial_runs.rising_rows.Goals as goal

pub returns : goal.returns
returns c = record { determined = same_rows; kept = rising_run }
