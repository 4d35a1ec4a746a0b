use Rattle.ltx_laws.proofs.Refused.{waiting_told}
use Rattle.ltx_laws.proofs.refusals.waiting_names_an_elder.Goals as goal

pub returns : goal.returns
returns c = record { waiting = waiting_told }
