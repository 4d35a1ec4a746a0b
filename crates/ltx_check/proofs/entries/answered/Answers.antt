use Rattle.ltx_check.proofs.EntryLemmas.{HasNoReply, no_answer}
use Rattle.ltx_check.proofs.entries.answered.Goals as goal

pub returns-in-Ok-None-clause-none : goal.returns-in-Ok-None-clause-none
returns-in-Ok-None-clause-none c =
    let none : HasNoReply c.args.text.now = (rw c.in-Ok-None.field-0-is at c.in-Ok-None.ensures.none) in
    no_answer c.args.command c.args.text.now c.requires.command none
