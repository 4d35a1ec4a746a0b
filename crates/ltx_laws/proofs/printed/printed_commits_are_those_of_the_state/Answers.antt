use Rattle.ltx_laws.proofs.PrintedCommits.{IsCommitter, commit_printed, committer_is, committer_prints, begun_short_is, begun_batch_is}
use Rattle.ltx_model.specs.Histories.{state}
use Rattle.ltx_laws.proofs.printed.printed_commits_are_those_of_the_state.Goals as goal

pub returns : goal.returns
returns c = record {
  printed = commit_printed;
  given = λ built base history more entry sound legal t e. let h : IsCommitter (state base history) entry t = committer_is built base history more entry sound legal t e in (h.active, h.commit, h.same);
  found = λ built base history more entry sound legal. committer_prints built base history more entry sound legal;
  short = λ built base history more entry sound legal. begun_short_is built base history more entry sound legal;
  batch = λ built base history more entry sound legal. begun_batch_is built base history more entry sound legal;
}
