use Rattle.ltx_laws.proofs.WitnessBatchStates.{late_given, late_found, late_nowhere}
use Rattle.ltx_laws.proofs.batch_witnesses.first_late_is_the_first.Goals as goal

pub returns : goal.returns
returns c = record { given = late_given; found = late_found; none = late_nowhere }
