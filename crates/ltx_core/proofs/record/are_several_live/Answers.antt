use Rattle.std.proofs.Common.{◌≡◌, ◌+◌, ◌<◌, ◌≤◌, suc, drop, length, sym, ap, ◌∙◌, subst, arith}
use Rattle.std.specs.Option.{is_some}
use Rattle.ltx_core.proofs.LiveWalks.{live_count, count_live, count_pending, count_most}
use Rattle.ltx_core.proofs.record.are_several_live.Goals as goal
use Rattle.ltx_core.proofs.record.are_several_live.Goals.{then-is_none, else-is_none}

pub overflow_add-live : goal.overflow_add-live
overflow_add-live c =
    let len : c.len-place-end.result ≡ length c.args.preserve.now = c.len-place-end.ensures in
    let test = c.loop-place-test.true in
    let within : c.loop-place.place < length c.args.preserve.now = omega arith in
    let more : live_count (drop c.loop-place.place c.args.preserve.now) ≡ suc (live_count (drop (suc c.loop-place.place) c.args.preserve.now)) =
    count_live c.args.preserve.now c.loop-place.place within (ap is_some (sym c.pending_at.ensures) ∙ c.if-is_none.ensures) in
    let sum : c.loop-place.live + live_count (drop c.loop-place.place c.args.preserve.now) ≡ live_count c.args.preserve.now = c.loop-place.invariant in
    let most : live_count c.args.preserve.now ≤ length c.args.preserve.now = count_most c.args.preserve.now in
    let fits = c.len-place-end.type_inv in
    omega arith

pub loop-place-preserved : goal.loop-place-preserved
loop-place-preserved c =
    let len : c.len-place-end.result ≡ length c.args.preserve.now = c.len-place-end.ensures in
    let test = c.loop-place-test.true in
    let within : c.loop-place.place < length c.args.preserve.now = omega arith in
    let next : c.loop-place.place + 1 ≡ suc c.loop-place.place = omega arith in
    let sum : c.loop-place.live + live_count (drop c.loop-place.place c.args.preserve.now) ≡ live_count c.args.preserve.now = c.loop-place.invariant in
    subst (λ k. c.if-is_none.live + live_count (drop k c.args.preserve.now) ≡ live_count c.args.preserve.now) (sym next)
    (elim c.if-is_none.branch [
      | then-is_none w ↦ let more : live_count (drop c.loop-place.place c.args.preserve.now) ≡ suc (live_count (drop (suc c.loop-place.place) c.args.preserve.now)) =
          count_live c.args.preserve.now c.loop-place.place within (ap is_some (sym c.pending_at.ensures) ∙ w.if-is_none.ensures) in
          let live : c.if-is_none.live ≡ c.loop-place.live + 1 = w.live-is in
          omega arith
      | else-is_none w ↦ let same : live_count (drop c.loop-place.place c.args.preserve.now) ≡ live_count (drop (suc c.loop-place.place) c.args.preserve.now) =
          count_pending c.args.preserve.now c.loop-place.place (ap is_some (sym c.pending_at.ensures) ∙ w.if-is_none.ensures) in
          let live : c.if-is_none.live ≡ c.loop-place.live = w.live-is in
          omega arith
    ])
