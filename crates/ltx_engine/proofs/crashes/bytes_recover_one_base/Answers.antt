use Rattle.ltx_engine.proofs.Survivals.{recovered_once}
use Rattle.ltx_engine.proofs.crashes.bytes_recover_one_base.Goals as goal

pub returns : goal.returns
returns c = recovered_once
