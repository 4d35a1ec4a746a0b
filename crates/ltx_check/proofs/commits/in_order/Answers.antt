use Rattle.std.proofs.Common.{◌≡◌, ◌∙◌, ◌++◌, [], sym, ap, take, arith}
use Rattle.std.specs.List.{find, cons_option}
use Rattle.ltx_check.specs.Marks.{is_commit_of, in_order}
use Rattle.ltx_check.proofs.Placed.{take_more}
use Rattle.ltx_check.proofs.CommitSteps.{order_more}
use Rattle.ltx_check.proofs.commits.in_order.Goals as goal

pub loop-tx-preserved : goal.loop-tx-preserved
loop-tx-preserved c =
    let n = c.tx-item.result in
    let commits = c.args.commits.now in
    let front = take c.loop-tx.tx-index c.args.order.now in
    let more = take_more c.args.order.now c.loop-tx.tx-index n (omega (arith, c.loop-tx-test.true)) c.tx-item.is in
    let found : c.commit_of.result ≡ find (is_commit_of n) commits = c.commit_of.ensures ∙ c.in_ok-by_number.ensures n in
    c.in_ok-push_some.ensures ∙ (λ i. c.loop-tx.invariant i ++ cons_option (found i) []) ∙ sym (order_more commits front n) ∙ ap (in_order commits) (sym more)
