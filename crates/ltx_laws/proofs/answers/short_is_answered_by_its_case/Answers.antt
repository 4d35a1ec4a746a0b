use Rattle.ltx_laws.proofs.AnsweredShorts.{operation_answered, held_answered, changed_answered, committed_answered}
use Rattle.ltx_laws.proofs.answers.short_is_answered_by_its_case.Goals as goal

pub returns : goal.returns
returns c = record { operation = operation_answered; held = held_answered; changed = changed_answered; committed = committed_answered }
