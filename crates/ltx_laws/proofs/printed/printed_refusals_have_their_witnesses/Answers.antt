use Rattle.ltx_laws.proofs.PrintedPlaces.{first_legal}
use Rattle.ltx_laws.proofs.RefusedShorts.{preserved_told, changed_told}
use Rattle.ltx_laws.proofs.Refused.{late_told, contradicts_told, waiting_told}
use Rattle.ltx_laws.proofs.printed.printed_refusals_have_their_witnesses.Goals as goal

pub returns : goal.returns
returns c = record {
  preserved = λ built base history more entry sound legal. preserved_told built base history entry sound (first_legal built base history more entry sound legal);
  changed = λ built base history more entry sound legal. changed_told built base history entry sound (first_legal built base history more entry sound legal);
  late = λ built base history more entry sound legal. late_told built base history entry sound (first_legal built base history more entry sound legal);
  contradicts = λ built base history more entry sound legal. contradicts_told built base history entry sound (first_legal built base history more entry sound legal);
  waiting = λ built base history more entry sound legal. waiting_told built base history entry sound (first_legal built base history more entry sound legal);
}
