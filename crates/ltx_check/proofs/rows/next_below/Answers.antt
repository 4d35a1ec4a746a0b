use Rattle.std.proofs.Common.{◌∙◌, sym, subst}
use Rattle.ltx_index.specs.Pairs.{IsInOrder}
use Rattle.ltx_check.specs.Tables.{Pairs}
use Rattle.ltx_check.proofs.Ranges.{none_under, in_order_rest}
use Rattle.ltx_check.proofs.rows.next_below.Goals as goal

pub returns-then-is_below-clause-order : goal.returns-then-is_below-clause-order
returns-then-is_below-clause-order c = λ order. in_order_rest c.args.high.now (c.in-Some.key.now, c.in-Some.value.now) c.next.new.self (subst (λ (l : Pairs). IsInOrder l) c.in-Some.ensures.some order)

pub returns-else-is_below-clause-order : goal.returns-else-is_below-clause-order
returns-else-is_below-clause-order c = λ order. in_order_rest c.args.high.now (c.in-Some.key.now, c.in-Some.value.now) c.next.new.self (subst (λ (l : Pairs). IsInOrder l) c.in-Some.ensures.some order)

pub returns-else-is_below-clause-none : goal.returns-else-is_below-clause-none
returns-else-is_below-clause-none c = λ order. rw c.in-Some.ensures.some (none_under c.args.high.now (c.in-Some.key.now, c.in-Some.value.now) c.next.new.self (subst (λ (l : Pairs). IsInOrder l) c.in-Some.ensures.some order) (sym c.is_below.ensures ∙ c.if-is_below.false))
