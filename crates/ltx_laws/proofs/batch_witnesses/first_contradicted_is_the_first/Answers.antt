use Rattle.ltx_laws.proofs.WitnessBatchStates.{contradicted_given, contradicted_found, contradicted_nowhere}
use Rattle.ltx_laws.proofs.batch_witnesses.first_contradicted_is_the_first.Goals as goal

pub returns : goal.returns
returns c = record { given = contradicted_given; found = contradicted_found; none = contradicted_nowhere }
