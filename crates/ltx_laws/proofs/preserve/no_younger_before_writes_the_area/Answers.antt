use Rattle.ltx_laws.proofs.Preserved.{no_younger_before}
use Rattle.ltx_laws.proofs.preserve.no_younger_before_writes_the_area.Goals as goal

pub returns : goal.returns
returns c = record { unwritten = no_younger_before }
