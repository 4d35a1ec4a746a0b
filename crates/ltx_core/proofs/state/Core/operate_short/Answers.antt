use Rattle.std.proofs.Common.{subst, inl}
use Rattle.ltx_core.proofs.LogSteps.{log_kept, calm_from, calm_result}
use Rattle.ltx_model.specs.declared.replies.Reply.TheVariants.{Preserved}
use Rattle.ltx_model.specs.Holders.{IsHeldBy}
use Rattle.ltx_core.proofs.Operated.{held_from, short_ok, step_core, result_core}
use Rattle.ltx_core.proofs.state.Core.operate_short.Goals as goal

pub invariant_of-self : goal.invariant_of-self
invariant_of-self c =
    step_core _ _ c.self.view_is c.args.session c.args.op.now c.take.new.self c.self.invariant.standing c.self.invariant.within (Preserved c.table_of-table.result c.in-Some.holder)
    (held_from _ _ c.self.view_is c.args.session c.args.op.now c.requires.short c.table_of-table.result c.in-Some.holder c.table_of-table.ensures
    (subst (IsHeldBy c.self.inside.preserve c.table_of-table.result) c.in-Some.is c.holder.ensures) c.take.new.self c.take.ensures.left)

pub invariant_of-self-in-None : goal.invariant_of-self-in-None
invariant_of-self-in-None c =
    result_core _ _ c.self.view_is c.args.session c.args.op.now c.operate.new.self c.self.invariant.standing c.self.invariant.within c.operate.result
    (short_ok _ _ c.self.view_is c.args.session c.args.op.now c.operate.new.self c.self.invariant.within.marks c.requires.short c.table_of-table.result c.table_of-table.ensures
    (subst (IsHeldBy c.self.inside.preserve c.table_of-table.result) c.in-None.is c.holder.ensures) c.operate.result c.operate.ensures.full c.operate.ensures.done)
    c.operate.ensures.kept

pub returns-in-Some-clause-ok : goal.returns-in-Some-clause-ok
returns-in-Some-clause-ok c =
    calm_from _ _ c.self.view_is _ _ _
    (held_from _ _ c.self.view_is c.args.session c.args.op.now c.requires.short c.table_of-table.result c.in-Some.holder c.table_of-table.ensures
    (subst (IsHeldBy c.self.inside.preserve c.table_of-table.result) c.in-Some.is c.holder.ensures) c.take.new.self c.take.ensures.left) (log_kept _) (inl tt)

pub returns-in-None-clause-ok : goal.returns-in-None-clause-ok
returns-in-None-clause-ok c =
    calm_result _ _ c.self.view_is c.args.session c.args.op.now _ (log_kept _) c.operate.result
    (short_ok _ _ c.self.view_is c.args.session c.args.op.now c.operate.new.self c.self.invariant.within.marks c.requires.short c.table_of-table.result c.table_of-table.ensures
    (subst (IsHeldBy c.self.inside.preserve c.table_of-table.result) c.in-None.is c.holder.ensures) c.operate.result c.operate.ensures.full c.operate.ensures.done)
