use Rattle.ltx_laws.proofs.WitnessBatchStates.{target_given, target_found, target_nowhere}
use Rattle.ltx_laws.proofs.batch_witnesses.target_is_the_earliest.Goals as goal

pub returns : goal.returns
returns c = record { given = target_given; found = target_found; none = target_nowhere }
