use Rattle.ltx_engine.proofs.Survivals.{fault_since, fault_now}
use Rattle.ltx_engine.proofs.crashes.faults_survive.Goals as goal

pub returns : goal.returns
returns c = record {
  since = λ old new base history sound legal stands leaves stays content before told since. fault_since old new base history sound legal stands leaves stays content told before since;
  now = λ old new base history sound legal stands leaves stays secret content told holds. fault_now old new base history sound legal stands leaves stays content told secret holds;
}
