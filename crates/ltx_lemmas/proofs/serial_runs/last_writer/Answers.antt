use Rattle.ltx_lemmas.proofs.Runs.{last_writes, silent_run}
use Rattle.ltx_lemmas.proofs.serial_runs.last_writer.Goals as goal

pub returns : goal.returns
returns c = record { written = last_writes; unwritten = silent_run }
