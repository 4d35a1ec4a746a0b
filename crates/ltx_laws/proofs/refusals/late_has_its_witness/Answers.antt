use Rattle.ltx_laws.proofs.Refused.{late_told}
use Rattle.ltx_laws.proofs.refusals.late_has_its_witness.Goals as goal

pub returns : goal.returns
returns c = record { late = late_told }
