use Rattle.ltx_transcript.proofs.Placing.{legal_placed}
use Rattle.ltx_transcript.proofs.law.legal_entries_are_well_placed.Goals as goal

pub returns : goal.returns
returns c = record { placed = legal_placed }
