use Rattle.ltx_laws.proofs.LiveStates.{committed_told, open_told}
use Rattle.ltx_laws.proofs.states.entries_tell_the_state.Goals as goal

pub returns : goal.returns
returns c = record { committed = committed_told; opens = open_told }
