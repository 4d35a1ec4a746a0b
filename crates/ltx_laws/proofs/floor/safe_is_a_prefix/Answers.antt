use Rattle.ltx_laws.proofs.Floors.{safe_over, safe_in_order}
use Rattle.ltx_laws.proofs.floor.safe_is_a_prefix.Goals as goal

pub returns : goal.returns
returns c = record { safe = safe_over; order = safe_in_order }
