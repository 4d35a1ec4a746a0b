use Rattle.ltx_laws.proofs.Refused.{contradicts_told}
use Rattle.ltx_laws.proofs.refusals.contradicts_has_its_witness.Goals as goal

pub returns : goal.returns
returns c = record { contradicts = contradicts_told }
