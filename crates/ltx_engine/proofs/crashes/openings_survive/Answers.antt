use Rattle.ltx_engine.proofs.Survivals.{opening_since, opening_now}
use Rattle.ltx_engine.proofs.crashes.openings_survive.Goals as goal

pub returns : goal.returns
returns c = record { since = opening_since; now = opening_now }
