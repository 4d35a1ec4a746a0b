use Rattle.ltx_laws.proofs.LiveStates.{structured}
use Rattle.ltx_laws.proofs.states.states_have_structure.Goals as goal

pub returns : goal.returns
returns c = record { structure = structured }
