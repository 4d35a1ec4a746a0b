use Rattle.ltx_engine.proofs.Survivals.{answer_since, answer_now}
use Rattle.ltx_engine.proofs.crashes.answers_survive.Goals as goal

pub returns : goal.returns
returns c = record { since = answer_since; now = answer_now }
