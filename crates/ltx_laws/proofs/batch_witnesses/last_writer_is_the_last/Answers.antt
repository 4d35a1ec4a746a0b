use Rattle.ltx_laws.proofs.LastWriters.{last_given, last_found, last_nowhere}
use Rattle.ltx_laws.proofs.batch_witnesses.last_writer_is_the_last.Goals as goal

pub returns : goal.returns
returns c = record { given = last_given; found = last_found; none = last_nowhere }
