use Rattle.std.proofs.Common.{length}
use Rattle.ltx_frame.specs.Orders.{AreRisingWrites}
use Rattle.ltx_frame.proofs.bounds.are_rising.Given as goal

abbrev pub invariant-loop-first : goal.invariant-loop-first
invariant-loop-first l = record {
  up : AreRisingWrites l.rest → AreRisingWrites l.fn.writes;
  down : AreRisingWrites l.fn.writes → AreRisingWrites l.rest;
}

abbrev pub decreases-loop-first : goal.decreases-loop-first
decreases-loop-first l = length l.rest
