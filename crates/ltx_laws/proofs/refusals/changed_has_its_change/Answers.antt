use Rattle.ltx_laws.proofs.RefusedShorts.{changed_told}
use Rattle.ltx_laws.proofs.refusals.changed_has_its_change.Goals as goal

pub returns : goal.returns
returns c = record { changed = changed_told }
