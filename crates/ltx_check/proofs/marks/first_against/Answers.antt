use Rattle.std.proofs.Common.{◌≡◌, ◌∙◌, ◌∷◌, ◌-◌, sym, ap, subst, drop, arith}
use Rattle.ltx_check.specs.Replays.{least_of}
use Rattle.ltx_check.proofs.Standing.{Standing, standing_more, drop_here}
use Rattle.ltx_check.proofs.marks.first_against.Goals as goal

pub loop-at-preserved : goal.loop-at-preserved
loop-at-preserved c =
    let commit = c.index-run-at.result in
    let at = c.loop-at.at in
    let run = c.args.run.now in
    let kept = c.loop-at.invariant in
    let here : drop (at - 1) run ≡ commit ∷ drop at run = drop_here run (at - 1) at commit (omega (arith, c.loop-at-test.true)) (omega (arith, c.loop-at-test.true, c.loop-at.auto.at)) c.index-run-at.is in
    subst (λ r. Standing r c.with-behind.result c.least-first.result) (sym here)
    (standing_more commit (drop at run) c.loop-at.behind c.with-behind.result c.loop-at.first c.least-first.result c.allows.result kept
    (c.allows.ensures (drop at run) kept.behind) (c.with-behind.ensures (drop at run) kept.behind) (c.least-first.ensures ∙ ap (λ o. least_of o c.loop-at.first) c.unless.ensures))
