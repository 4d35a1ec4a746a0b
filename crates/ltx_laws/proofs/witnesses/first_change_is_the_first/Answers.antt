use Rattle.ltx_laws.proofs.WitnessStates.{change_given, change_found, change_nowhere}
use Rattle.ltx_laws.proofs.witnesses.first_change_is_the_first.Goals as goal

pub returns : goal.returns
returns c = record { given = change_given; found = change_found; none = change_nowhere }
