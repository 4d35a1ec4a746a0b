use Rattle.std.proofs.lemmas.Result.{IfOk-weaker}
use Rattle.ltx_forward.proofs.Overtakes.{is_place, target_by}
use Rattle.ltx_forward.proofs.overtake.target_of.Goals as goal

pub returns-clause-target : goal.returns-clause-target
returns-clause-target c = IfOk-weaker c.earliest_overtaken.result _ _ (λ found one s i writes asked.
    target_by s i c.args.tx.now writes c.args.lives.now c.args.records.now c.args.agenda.now asked found (is_place s i c.args.tx.now writes c.args.lives.now c.args.records.now c.args.agenda.now asked found one)) c.earliest_overtaken.ensures

pub returns-clause-place : goal.returns-clause-place
returns-clause-place c = IfOk-weaker c.earliest_overtaken.result _ _ (λ found one s i writes asked. is_place s i c.args.tx.now writes c.args.lives.now c.args.records.now c.args.agenda.now asked found one) c.earliest_overtaken.ensures
