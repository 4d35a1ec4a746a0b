use Rattle.std.proofs.Common.{◌∙◌, ap, arith, rules, take, ◌≡◌}
use Rattle.std.proofs.lemmas.Grind.{common_steps}
use Rattle.ltx_index.specs.Pairs.{pairs_from}
use Rattle.std.proofs.Common.{false}
use Rattle.ltx_check.proofs.RowSteps.{walk_start, walk_more, walk_other, walk_short, walk_yes, walk_no}
use Rattle.ltx_check.proofs.rows.has_rows.Goals as goal

pub loop-row-init : goal.loop-row-init
loop-row-init c = walk_start c.args.low.now c.args.high.now c.args.table.now c.walk-walk.result c.args.rows.now (c.walk-walk.ensures.pairs ∙ ap (λ k. pairs_from c.args.table.now k false) c.bytes.ensures.value) c.walk-walk.ensures.in_order

pub loop-row-preserved : goal.loop-row-preserved
loop-row-preserved c = walk_more c.loop-row.invariant c.row-item.result (omega (arith, c.loop-row-test.true)) c.row-item.is (c.in-Some.key.now, c.in-Some.value.now) c.next_below.new.walk c.in-Some.ensures.some c.in-Some.ensures.order (c.is_row.ensures.yes c.if-not-is_row.false)

pub returns-in-None-clause-no : goal.returns-in-None-clause-no
returns-in-None-clause-no c = λ so same. walk_short c.loop-row.invariant (omega (arith, c.loop-row-test.true)) c.in-None.ensures.none same

pub returns-then-not-is_row-clause-no : goal.returns-then-not-is_row-clause-no
returns-then-not-is_row-clause-no c = λ so same. walk_other c.loop-row.invariant c.row-item.result (omega (arith, c.loop-row-test.true)) c.row-item.is (c.in-Some.key.now, c.in-Some.value.now) c.next_below.new.walk c.in-Some.ensures.some (c.is_row.ensures.no c.if-not-is_row.true) same

pub returns-clause-yes : goal.returns-clause-yes
returns-clause-yes c =
    let all : take c.loop-row.row-index c.args.rows.now ≡ c.args.rows.now = grind (arith, common_steps) in
    walk_yes c.loop-row.invariant (λ p. (p.0.now, p.1.now)) c.next_below-2.new.walk c.next_below-2.result c.is_none.result all (search rules) c.next_below-2.ensures.none

pub returns-clause-no : goal.returns-clause-no
returns-clause-no c =
    let all : take c.loop-row.row-index c.args.rows.now ≡ c.args.rows.now = grind (arith, common_steps) in
    walk_no c.loop-row.invariant (λ p. (p.0.now, p.1.now)) c.next_below-2.new.walk c.next_below-2.result c.is_none.result all (search rules) c.next_below-2.ensures.some
