use Rattle.std.proofs.Common.{◌≡◌, ◌≤◌, max, length}
use Rattle.ltx_model.specs.Limits.{last_number}
use Rattle.ltx_model.specs.Recovery.{greatest_number}
use Rattle.ltx_recover.specs.Frames.{events_of_all}
use Rattle.ltx_recover.proofs.frames.last_number_of.Given as goal

abbrev pub invariant-loop-placed : goal.invariant-loop-placed
invariant-loop-placed l = record {
  greatest : max l.last (greatest_number (events_of_all l.rest)) ≡ greatest_number (events_of_all l.frames);
  within : l.last ≤ last_number;
}

abbrev pub decreases-loop-placed : goal.decreases-loop-placed
decreases-loop-placed l = length l.rest
