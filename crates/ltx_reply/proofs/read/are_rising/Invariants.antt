use Rattle.std.proofs.Common.{length}
use Rattle.ltx_model.specs.Keys.{IsRising}
use Rattle.ltx_reply.specs.Texts.{key_of}
use Rattle.ltx_reply.proofs.read.are_rising.Given as goal

abbrev pub invariant-loop-first : goal.invariant-loop-first
invariant-loop-first l = record {
  up : IsRising key_of l.rest → IsRising key_of l.fn.rows;
  down : IsRising key_of l.fn.rows → IsRising key_of l.rest;
}

abbrev pub decreases-loop-first : goal.decreases-loop-first
decreases-loop-first l = length l.rest
