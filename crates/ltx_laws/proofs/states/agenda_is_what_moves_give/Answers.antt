use Rattle.ltx_laws.proofs.LiveStates.{agenda_given}
use Rattle.ltx_laws.proofs.states.agenda_is_what_moves_give.Goals as goal

pub returns : goal.returns
returns c = record { agenda = agenda_given }
