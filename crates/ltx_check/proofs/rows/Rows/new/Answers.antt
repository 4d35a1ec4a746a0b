use Rattle.std.proofs.Common.{arith, length-append}
use Rattle.ltx_check.proofs.RowSteps.{empty_push, no_rows}
use Rattle.ltx_check.proofs.rows.Rows.new.Goals as goal

pub loop-t-preserved : goal.loop-t-preserved
loop-t-preserved c =
    let long = c.in_ok-push.ensures.len in
    record {
      count = rw c.in_ok-push.ensures.items (simp length-append (omega arith));
      empty = rw c.in_ok-push.ensures.items (empty_push _ _ c.loop-t.invariant.empty c.new.ensures);
    }

pub invariant_of-result : goal.invariant_of-result
invariant_of-result c = omega arith

pub returns : goal.returns
returns c = no_rows _ c.loop-t.invariant.empty
