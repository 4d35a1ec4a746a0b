use Rattle.std.proofs.Common.{◌≡◌, [], length}
use Rattle.ltx_model.specs.Played.{after_events}
use Rattle.ltx_model.specs.Recovery.{unlawful_from}
use Rattle.ltx_recover.specs.Frames.{placed_in, events_of_all}
use Rattle.ltx_recover.proofs.frames.played.Given as goal

-- what is left of the frames gives what all of them gave
abbrev pub invariant-loop-placed : goal.invariant-loop-placed
invariant-loop-placed l = record {
  found : unlawful_from 0 [] (placed_in l.frames) ≡ unlawful_from l.closed l.order (placed_in l.rest);
  list : after_events [] (events_of_all l.frames) ≡ after_events l.order (events_of_all l.rest);
}

abbrev pub decreases-loop-placed : goal.decreases-loop-placed
decreases-loop-placed l = length l.rest
