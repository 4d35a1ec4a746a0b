use Rattle.std.proofs.Common.{sym, ◌∙◌, inl}
use Rattle.ltx_core.proofs.LogSteps.{log_kept, calm_answered, calm_result}
use Rattle.ltx_core.proofs.Operated.{refused, live_ok, result_core}
use Rattle.ltx_core.proofs.state.Core.operate_batch.Goals as goal

pub invariant_of-self : goal.invariant_of-self
invariant_of-self c =
    result_core _ _ c.self.view_is c.args.session c.args.op.now c.operate.new.self c.self.invariant.standing c.self.invariant.within c.operate.result
    (live_ok _ _ c.self.view_is c.args.session c.args.op.now c.operate.new.self c.args.declared c.args.mark c.requires.live (sym c.in-None.is ∙ c.refusal.ensures) c.operate.result c.operate.ensures.full c.operate.ensures.done)
    c.operate.ensures.kept

pub returns-in-Some-clause-ok : goal.returns-in-Some-clause-ok
returns-in-Some-clause-ok c = calm_answered _ _ _ _ (refused c.args.self.now c.args.session c.args.op.now c.args.declared c.args.mark c.in-Some.reply c.requires.live (sym c.in-Some.is ∙ c.refusal.ensures)) (log_kept _) (inl tt)

pub returns-in-None-clause-ok : goal.returns-in-None-clause-ok
returns-in-None-clause-ok c =
    calm_result _ _ c.self.view_is c.args.session c.args.op.now _ (log_kept _) c.operate.result
    (live_ok _ _ c.self.view_is c.args.session c.args.op.now c.operate.new.self c.args.declared c.args.mark c.requires.live (sym c.in-None.is ∙ c.refusal.ensures) c.operate.result c.operate.ensures.full c.operate.ensures.done)
