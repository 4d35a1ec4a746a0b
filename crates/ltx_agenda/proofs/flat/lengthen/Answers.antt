use Rattle.std.proofs.Common.{◌+◌, ◌<◌, ◌≤◌, get_or, set, ap, sym, ◌∙◌, arith}
use Rattle.std.proofs.lemmas.Bool.Decides.{nat_tests}
use Rattle.ltx_agenda.specs.Lanes.{total, longer}
use Rattle.ltx_agenda.proofs.InLanes.{longer_past}
use Rattle.ltx_agenda.proofs.Walks.{total_next, total_most, total_done, longer_found}
use Rattle.ltx_agenda.proofs.flat.lengthen.Goals as goal

pub overflow_add-lens : goal.overflow_add-lens
overflow_add-lens c =
    let value = ap (λ zs. get_or zs c.loop-lane.lane 0) c.loop-lane.invariant.lens in
    let next = total_next c.args.lens.now c.loop-lane.lane c.loop-lane-test.true in
    let most = total_most c.args.lens.now (c.loop-lane.lane + 1) in
    let bounded = c.requires.bounded in
    omega arith

pub returns-then-left-lens-clause-lens : goal.returns-then-left-lens-clause-lens
returns-then-left-lens-clause-lens c =
    let value = ap (λ zs. get_or zs c.loop-lane.lane 0) c.loop-lane.invariant.lens in
    let below = c.if-left-lens.true in
    let here : c.loop-lane.left < get_or c.args.lens.now c.loop-lane.lane 0 = omega arith in
    ap (λ zs. set zs c.loop-lane.lane (get_or zs c.loop-lane.lane 0 + 1)) c.loop-lane.invariant.lens ∙ sym (longer_found c.args.lens.now c.loop-lane.lane c.loop-lane.left c.loop-lane-test.true here)
    ∙ ap (longer c.args.lens.now) (sym c.loop-lane.invariant.left)

pub returns-then-left-lens-clause-closed : goal.returns-then-left-lens-clause-closed
returns-then-left-lens-clause-closed c =
    let value = ap (λ zs. get_or zs c.loop-lane.lane 0) c.loop-lane.invariant.lens in
    let below = c.if-left-lens.true in
    let next = total_next c.args.lens.now c.loop-lane.lane c.loop-lane-test.true in
    let most = total_most c.args.lens.now (c.loop-lane.lane + 1) in
    let sofar = c.loop-lane.invariant.left in
    let inside : c.args.place < total c.args.lens.now = omega arith in
    grind (arith, nat_tests)

pub loop-lane-preserved : goal.loop-lane-preserved
loop-lane-preserved c =
    let value = ap (λ zs. get_or zs c.loop-lane.lane 0) c.loop-lane.invariant.lens in
    let past = c.if-left-lens.false in
    let next = total_next c.args.lens.now c.loop-lane.lane c.loop-lane-test.true in
    let sofar = c.loop-lane.invariant.left in
    record { lens = c.loop-lane.invariant.lens; left = omega arith }

pub returns-clause-lens : goal.returns-clause-lens
returns-clause-lens c =
    let done = total_done c.args.lens.now c.loop-lane.lane c.loop-lane-test.false in
    let sofar = c.loop-lane.invariant.left in
    c.loop-lane.invariant.lens ∙ sym (longer_past c.args.lens.now c.args.place (omega arith))

pub returns-clause-closed : goal.returns-clause-closed
returns-clause-closed c =
    let done = total_done c.args.lens.now c.loop-lane.lane c.loop-lane-test.false in
    let sofar = c.loop-lane.invariant.left in
    let outside : total c.args.lens.now ≤ c.args.place = omega arith in
    grind (arith, nat_tests)
