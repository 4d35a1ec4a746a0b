use Rattle.std.proofs.Common.{◌≡◌, ◌≤◌, max, length}
use Rattle.ltx_model.specs.Limits.{last_number}
use Rattle.ltx_model.specs.Recovery.{greatest_number}
use Rattle.ltx_frame.specs.Events.{events_of}
use Rattle.ltx_recover.proofs.frames.greatest_of.Given as goal

abbrev pub invariant-loop-event : goal.invariant-loop-event
invariant-loop-event l = record {
  greatest : max l.last (greatest_number (events_of l.rest)) ≡ max l.least (greatest_number (events_of l.events));
  within : l.last ≤ last_number;
}

abbrev pub decreases-loop-event : goal.decreases-loop-event
decreases-loop-event l = length l.rest
