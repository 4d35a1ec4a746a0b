use Rattle.ltx_laws.proofs.Forwarded.{against_numbers}
use Rattle.ltx_laws.proofs.commits.against_numbers_is_forwarded.Goals as goal

pub returns : goal.returns
returns c = record { printed = against_numbers }
