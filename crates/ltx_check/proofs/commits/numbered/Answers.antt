use Rattle.std.proofs.Common.{◌∙◌, sym, ap, arith}
use Rattle.std.specs.List.{find}
use Rattle.ltx_model.specs.Lists.{or_else}
use Rattle.ltx_check.specs.Marks.{is_commit_of, kept_if}
use Rattle.ltx_check.proofs.Placed.{take_more}
use Rattle.ltx_check.proofs.CommitSteps.{found_more}
use Rattle.ltx_check.proofs.commits.numbered.Goals as goal

pub loop-commit-preserved : goal.loop-commit-preserved
loop-commit-preserved c = λ n.
    let commit = c.commit-item.result in
    let more = take_more c.args.commits.now c.loop-commit.commit-index commit (omega (arith, c.loop-commit-test.true)) c.commit-item.is in
    c.in_ok-note.ensures n ∙ ap (λ o. or_else o (kept_if (is_commit_of n commit) commit)) (c.loop-commit.invariant n) ∙ sym (found_more n _ commit) ∙ ap (find (is_commit_of n)) (sym more)
