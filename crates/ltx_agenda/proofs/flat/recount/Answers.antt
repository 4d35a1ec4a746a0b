use Rattle.std.proofs.Common.{◌≡◌, ◌+◌, ◌-◌, get_or, set, take, drop, length, ap, ◌∙◌, arith}
use Rattle.ltx_model.specs.Listings.{without}
use Rattle.ltx_agenda.proofs.Walks.{kept_to, kept_all, kept_next, kept_more, total_next, total_most}
use Rattle.ltx_agenda.proofs.flat.recount.Goals as goal

pub overflow_add-to : goal.overflow_add-to
overflow_add-to c =
    let value = ap (λ zs. get_or zs c.loop-lane.lane 0) c.loop-lane.invariant.lens ∙ kept_next c.args.flat.now c.args.lens.now c.loop-lane.lane c.args.tx c.loop-lane-test.true in
    let next = total_next c.args.lens.now c.loop-lane.lane c.loop-lane-test.true in
    let most = total_most c.args.lens.now (c.loop-lane.lane + 1) in
    let from = c.loop-lane.invariant.from in
    let fits = c.requires.fits in
    omega arith

pub offset_bounds-flat-from : goal.offset_bounds-flat-from
offset_bounds-flat-from c =
    let most = total_most c.args.lens.now c.loop-lane.lane in
    let from = c.loop-lane.invariant.from in
    let fits = c.requires.fits in
    omega arith

pub slice_bounds-left_of-end : goal.slice_bounds-left_of-end
slice_bounds-left_of-end c =
    let value = ap (λ zs. get_or zs c.loop-lane.lane 0) c.loop-lane.invariant.lens ∙ kept_next c.args.flat.now c.args.lens.now c.loop-lane.lane c.args.tx c.loop-lane-test.true in
    let next = total_next c.args.lens.now c.loop-lane.lane c.loop-lane-test.true in
    let most = total_most c.args.lens.now (c.loop-lane.lane + 1) in
    let from = c.loop-lane.invariant.from in
    let fits = c.requires.fits in
    omega arith

pub loop-lane-preserved : goal.loop-lane-preserved
loop-lane-preserved c =
    let value = ap (λ zs. get_or zs c.loop-lane.lane 0) c.loop-lane.invariant.lens ∙ kept_next c.args.flat.now c.args.lens.now c.loop-lane.lane c.args.tx c.loop-lane-test.true in
    let next = total_next c.args.lens.now c.loop-lane.lane c.loop-lane-test.true in
    let from = c.loop-lane.invariant.from in
    let size : c.loop-lane.from + get_or c.loop-lane.lens c.loop-lane.lane 0 - c.loop-lane.from ≡ get_or c.args.lens.now c.loop-lane.lane 0 = omega arith in
    let left = c.left_of.ensures ∙ ap (λ k. length (without (take k (drop c.loop-lane.from c.args.flat.now)) c.args.tx)) size ∙ ap (λ k. length (without (take (get_or c.args.lens.now c.loop-lane.lane 0) (drop k c.args.flat.now)) c.args.tx)) from in
    record {
      lens = ap (λ zs. set zs c.loop-lane.lane c.left_of.result) c.loop-lane.invariant.lens ∙ ap (set (kept_to c.loop-lane.lane c.args.flat.now c.args.lens.now c.args.tx) c.loop-lane.lane) left
          ∙ kept_more c.args.flat.now c.args.lens.now c.loop-lane.lane c.args.tx c.loop-lane-test.true;
      from = omega arith;
    }

pub returns-clause-lens : goal.returns-clause-lens
returns-clause-lens c = c.loop-lane.invariant.lens ∙ kept_all c.args.flat.now c.args.lens.now c.loop-lane.lane c.args.tx c.loop-lane-test.false
