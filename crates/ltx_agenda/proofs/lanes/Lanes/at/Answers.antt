use Rattle.std.proofs.Common.{ap, ◌∙◌, sym, slice_get, arith, drop, ◌+◌, ◌-◌}
use Rattle.ltx_agenda.specs.Runs.{rows_of, members_of}
use Rattle.ltx_agenda.specs.Placed.{Standing}
use Rattle.ltx_agenda.proofs.Listings.{walk_here, walk_on}
use Rattle.ltx_agenda.proofs.lanes.Lanes.at.Goals as goal

pub returns-then-left-len : goal.returns-then-left-len
returns-then-left-len c =
    let len = c.len-len.ensures in
    let below = c.if-left-len.true in
    let walk = walk_here c.deref-run-items.result.now c.loop-run.run-index c.loop-run.left c.run-item.result c.loop-run-test.true c.run-item.is (omega arith) in
    let list = ap (λ (v : Standing). v.list) c.self.view_is in
    let same = ap (λ rs. members_of (rows_of rs)) c.deref-run-items.ensures.value in
    c.get.ensures ∙ sym walk ∙ sym c.loop-run.invariant ∙ ap (λ xs. slice_get xs c.args.place) (same ∙ list)

pub loop-run-preserved : goal.loop-run-preserved
loop-run-preserved c =
    let len = c.len-len.ensures in
    let past = c.if-left-len.false in
    let walk = walk_on c.deref-run-items.result.now c.loop-run.run-index c.loop-run.left c.run-item.result c.loop-run-test.true c.run-item.is (omega arith) in
    c.loop-run.invariant ∙ walk ∙ ap (λ k. slice_get (members_of (rows_of (drop (c.loop-run.run-index + 1) c.deref-run-items.result.now))) (c.loop-run.left - k)) (sym len)
