use Rattle.std.proofs.Common.{arith, length-append}
use Rattle.ltx_store.proofs.FromMarks.{each_empty}
use Rattle.ltx_store.proofs.Places.{empty_push, empty_in_order, empty_tables}
use Rattle.ltx_store.proofs.store.Store.new.Goals as goal

pub loop-t-preserved : goal.loop-t-preserved
loop-t-preserved c =
    let long = c.in_ok-push.ensures.len in
    record {
      count = rw c.in_ok-push.ensures.items (simp length-append (omega arith));
      empty = rw c.in_ok-push.ensures.items (empty_push _ _ c.loop-t.invariant.empty c.new.ensures);
    }

pub invariant_of-result : goal.invariant_of-result
invariant_of-result c = record {
  tables_are = record { count = omega arith; in_order = empty_in_order _ c.loop-t.invariant.empty };
  marks = each_empty _ _ (empty_tables 0 _ c.loop-t.invariant.empty);
  within = λ table. let zero = c.new-2.ensures.tables table in omega (arith, zero);
}

pub returns : goal.returns
returns c = empty_tables 0 _ c.loop-t.invariant.empty
