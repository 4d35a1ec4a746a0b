use Rattle.ltx_laws.proofs.AnsweredBatches.{waiting_answered, late_answered, contradicts_answered, forwarded_answered}
use Rattle.ltx_laws.proofs.answers.batch_commit_is_answered_by_its_case.Goals as goal

pub returns : goal.returns
returns c = record { waiting = waiting_answered; late = late_answered; contradicts = contradicts_answered; forwarded = forwarded_answered }
