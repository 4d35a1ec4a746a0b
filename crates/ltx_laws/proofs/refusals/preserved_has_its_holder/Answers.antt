use Rattle.ltx_laws.proofs.RefusedShorts.{preserved_told}
use Rattle.ltx_laws.proofs.refusals.preserved_has_its_holder.Goals as goal

pub returns : goal.returns
returns c = record { preserved = preserved_told }
