use Rattle.ltx_laws.proofs.CommitEpochs.{commit_through, commit_not_before}
use Rattle.ltx_laws.proofs.epochs.commits_count_from_their_epoch.Goals as goal

pub returns : goal.returns
returns c = record { through = commit_through; before = commit_not_before }
