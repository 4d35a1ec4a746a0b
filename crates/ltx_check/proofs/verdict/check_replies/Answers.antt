use Rattle.std.proofs.Common.{[], Some, arith, rules, refl}
use Rattle.ltx_check.specs.Replays.{Finds, RunPlays, RunDiffers}
use Rattle.ltx_check.proofs.Judging.{judged_other, run_low}
use Rattle.ltx_check.proofs.verdict.check_replies.Goals as goal

pub returns-in-Ok-Some : goal.returns-in-Ok-Some
returns-in-Ok-Some c = judged_other c.requires.placed c.requires.members c.in-Ok-Some.place _ refl (search rules)

pub overflow_add-result : goal.overflow_add-result
overflow_add-result c =
    let history = c.args.transcript.now.entries.items in
    let order = c.args.transcript.now.order.items in
    let finds : Finds (RunPlays history [] order) (RunDiffers history [] order) (Some c.in-Ok-Some.place) = search rules in
    let low = run_low history [] order c.in-Ok-Some.place finds.0 in
    omega (arith, low, c.deref.ensures.len)
