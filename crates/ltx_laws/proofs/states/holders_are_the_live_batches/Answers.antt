use Rattle.ltx_laws.proofs.HolderStates.{least_is_held, held_is_least}
use Rattle.ltx_laws.proofs.states.holders_are_the_live_batches.Goals as goal

pub returns : goal.returns
returns c = record { given = least_is_held; found = held_is_least }
