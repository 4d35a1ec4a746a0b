use Rattle.std.proofs.Common.{Some, ap, sym, ◌∙◌, inr}
use Rattle.ltx_core.proofs.LogSteps.{log_kept, calm_answered}
use Rattle.ltx_core.proofs.Operated.{none_from, pending_from}
use Rattle.ltx_core.proofs.state.Core.operate.Goals as goal

pub returns-in-None-clause-ok : goal.returns-in-None-clause-ok
returns-in-None-clause-ok c = calm_answered _ _ _ _ (none_from _ _ c.self.view_is c.args.session c.args.op.now (sym c.stage.ensures ∙ c.in-None.is)) (log_kept _) (inr tt)

pub returns-in-Some-Pending-clause-ok : goal.returns-in-Some-Pending-clause-ok
returns-in-Some-Pending-clause-ok c =
    calm_answered _ _ _ _ (pending_from _ _ c.self.view_is c.args.session c.args.op.now c.in-Some-Pending.declared (sym c.stage.ensures ∙ c.in-Some-Pending.is ∙ ap Some c.in-Some-Pending.field-0-is)) (log_kept _) (inr tt)
