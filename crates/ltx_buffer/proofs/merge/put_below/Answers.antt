use Rattle.std.proofs.Common.{◌≡◌, ◌+◌, ap, arith, true, rules}
use Rattle.std.specs.Ordering.{is_lt}
use Rattle.std.specs.declared.cmp.Ordering.TheVariants.{Less}
use Rattle.ltx_model.specs.Keys.{key_cmp}
use Rattle.ltx_buffer.proofs.Rows.{put_more, all_more, past}
use Rattle.ltx_model.proofs.Orderings.{is_less}
use Rattle.ltx_buffer.proofs.merge.put_below.Goals as goal

pub loop-write-preserved : goal.loop-write-preserved
loop-write-preserved c =
    let lesser : is_lt (key_cmp c.write-item.result.key c.args.key.now) ≡ true = search rules in
    record {
      counted = ap (λ n. n + 1) c.loop-write.invariant.counted;
      rows = put_more c.args.merged.now.items c.loop-write.merged.items c.put.new.merged.items c.args.own.now c.loop-write.write-index c.write-item.result c.loop-write-test.true c.write-item.is c.loop-write.invariant.rows c.in_ok-put.ensures;
      below = all_more (λ w. key_cmp w.key c.args.key.now ≡ Less) c.args.own.now c.loop-write.write-index c.write-item.result c.loop-write-test.true c.write-item.is c.loop-write.invariant.below (is_less _ lesser);
    }

pub returns-clause-next : goal.returns-clause-next
returns-clause-next c = past _ c.args.own.now c.loop-write.count (omega (arith, c.loop-write-test.false, c.loop-write.invariant.counted))
