use Rattle.ltx_laws.proofs.FloorMembers.{overtaken_from, late_from, contradicted_from, reader_from}
use Rattle.ltx_laws.proofs.floor.commits_ask_from_the_floor.Goals as goal

pub returns : goal.returns
returns c = record { overtaken = overtaken_from; late = late_from; contradicted = contradicted_from; reader = reader_from }
