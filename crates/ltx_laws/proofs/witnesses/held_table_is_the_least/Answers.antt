use Rattle.ltx_laws.proofs.WitnessStates.{least_given, least_found, least_nowhere}
use Rattle.ltx_laws.proofs.witnesses.held_table_is_the_least.Goals as goal

pub returns : goal.returns
returns c = record { given = least_given; found = least_found; none = least_nowhere }
