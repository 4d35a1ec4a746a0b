use Rattle.ltx_laws.proofs.WitnessStates.{holder_given, holder_found, holder_nowhere}
use Rattle.ltx_laws.proofs.witnesses.holder_is_the_least.Goals as goal

pub returns : goal.returns
returns c = record { given = holder_given; found = holder_found; none = holder_nowhere }
