use Rattle.ltx_laws.proofs.PrintedPlaces.{against_printed}
use Rattle.ltx_laws.proofs.printed.against_numbers_is_printed.Goals as goal

pub returns : goal.returns
returns c = record { before = against_printed }
