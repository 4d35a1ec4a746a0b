use Rattle.ltx_laws.proofs.WitnessBatchStates.{waits_given, waits_found_at, witness_nowhere}
use Rattle.ltx_laws.proofs.batch_witnesses.waits_for_whom_it_must.Goals as goal

pub returns : goal.returns
returns c = record { given = waits_given; found = waits_found_at; none = witness_nowhere }
