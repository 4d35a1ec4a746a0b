use Rattle.ltx_laws.proofs.Priorities.{least_commits}
use Rattle.ltx_laws.proofs.priority.least_batch_commits.Goals as goal

pub returns : goal.returns
returns c = record { home = least_commits }
