use Rattle.std.proofs.Common.{Some, arith, rules, refl}
use Rattle.ltx_check.specs.Replays.{Finds}
use Rattle.ltx_check.specs.Marks.{KeepsPlaces, AgainstAt, in_order, commits_of}
use Rattle.ltx_check.proofs.Judging.{judged_yes, judged_marks}
use Rattle.ltx_check.proofs.CommitSteps.{marks_low}
use Rattle.ltx_check.proofs.verdict.check_marks.Goals as goal

pub returns-in-Ok-None : goal.returns-in-Ok-None
returns-in-Ok-None c = judged_yes c.requires.placed c.requires.members c.requires.plays (search rules)

pub returns-in-Ok-Some : goal.returns-in-Ok-Some
returns-in-Ok-Some c = judged_marks c.requires.placed c.requires.members c.requires.plays c.in-Ok-Some.place _ refl (search rules)

pub overflow_add-result : goal.overflow_add-result
overflow_add-result c =
    let history = c.args.transcript.now.entries.items in
    let order = c.args.transcript.now.order.items in
    let finds : Finds (KeepsPlaces history order) (AgainstAt (in_order (commits_of history) order)) (Some c.in-Ok-Some.place) = search rules in
    let low = marks_low history order c.in-Ok-Some.place finds.0 in
    omega (arith, low, c.deref.ensures.len)
