use Rattle.std.proofs.Common.{◌≡◌, ◌≤◌, length}
use Rattle.ltx_model.specs.Limits.{last_durable}
use Rattle.ltx_model.specs.Contents.{epoch_after}
use Rattle.ltx_recover.specs.Frames.{frames_of}
use Rattle.ltx_recover.proofs.frames.last_epoch_of.Given as goal

abbrev pub invariant-loop-placed : goal.invariant-loop-placed
invariant-loop-placed l = record {
  last : epoch_after l.epoch (frames_of l.rest) ≡ epoch_after 0 (frames_of l.frames);
  within : l.epoch ≤ last_durable;
}

abbrev pub decreases-loop-placed : goal.decreases-loop-placed
decreases-loop-placed l = length l.rest
