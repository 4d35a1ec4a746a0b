use Rattle.ltx_laws.proofs.DurableReplies.{acknowledged_durable, durable_printed, durable_closed}
use Rattle.ltx_laws.proofs.epochs.acknowledged_commits_are_durable.Goals as goal

pub returns : goal.returns
returns c = record { acknowledged = acknowledged_durable; printed = durable_printed; closed = durable_closed }
