use Rattle.ltx_laws.proofs.Priorities.{overtakes_nobody}
use Rattle.ltx_laws.proofs.priority.batch_that_overtakes_nobody_commits.Goals as goal

pub returns : goal.returns
returns c = record { home = overtakes_nobody }
