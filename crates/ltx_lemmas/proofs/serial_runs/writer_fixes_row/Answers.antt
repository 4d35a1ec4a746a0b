use Rattle.ltx_lemmas.proofs.Runs.{run_sourced, writer_fixes}
use Rattle.ltx_lemmas.proofs.serial_runs.writer_fixes_row.Goals as goal

pub returns : goal.returns
returns c = record { sourced = run_sourced; fixed = writer_fixes }
