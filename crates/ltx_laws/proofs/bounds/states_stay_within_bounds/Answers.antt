use Rattle.ltx_laws.proofs.WithinBounds.{last_bounded, epoch_bounded, open_bounded, committed_bounded}
use Rattle.ltx_laws.proofs.bounds.states_stay_within_bounds.Goals as goal

pub returns : goal.returns
returns c = record { last = last_bounded; epoch = epoch_bounded; opened = open_bounded; committed = committed_bounded }
