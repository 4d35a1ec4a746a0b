use Rattle.std.proofs.Common.{◌∙◌, sym, inr}
use Rattle.ltx_core.proofs.LogSteps.{log_kept, calm_from}
use Rattle.ltx_model.specs.declared.commands.Command.TheVariants.{Ask}
use Rattle.ltx_model.specs.declared.commands.Verb.TheVariants.{Abort}
use Rattle.ltx_model.specs.declared.replies.Reply.TheVariants.{Aborted, NoTx}
use Rattle.ltx_core.proofs.Ended.{known_as, aborted_none_from, aborted_some_from, left_within}
use Rattle.ltx_core.proofs.CoreSteps.{core_step_from}
use Rattle.ltx_core.proofs.state.Core.abort.Goals as goal

pub returns-in_default : goal.returns-in_default
returns-in_default c = calm_from _ _ c.self.view_is _ _ _ (aborted_none_from _ _ c.self.view_is c.args.session c.take.new.self (sym c.take.ensures.taken ∙ c.in_default.is) c.take.ensures.left) (log_kept _) (inr tt)

pub invariant_of-self : goal.invariant_of-self
invariant_of-self c =
    let within = c.self.invariant.within in
    core_step_from _ _ c.self.view_is (Ask c.args.session Abort) NoTx _ (aborted_none_from _ _ c.self.view_is c.args.session c.take.new.self (sym c.take.ensures.taken ∙ c.in_default.is) c.take.ensures.left) c.self.invariant.standing
    (record { marks = within.marks; room = within.room; listed = within.listed; epoch_bound = within.epoch_bound; epoch_positive = within.epoch_positive; last_bound = within.last_bound; log = within.log })

pub leave-requires : goal.leave-requires
leave-requires c = record { known = known_as _ c.self.invariant.standing c.args.session c.in-Some.open (sym c.take.ensures.taken ∙ c.in-Some.is) }

pub invariant_of-self-2 : goal.invariant_of-self-2
invariant_of-self-2 c =
    core_step_from _ _ c.self.view_is (Ask c.args.session Abort) Aborted _
    (aborted_some_from _ _ c.self.view_is c.args.session c.leave.new.agenda.room c.in-Some.open c.leave.new.agenda.list c.leave.new.preserve c.take.new.self c.leave.new.areas.items c.leave.new.records (sym c.in-Some.is ∙ c.take.ensures.taken) c.take.ensures.left c.leave.ensures.list c.leave.ensures.batches c.leave.ensures.areas c.leave.ensures.records)
    c.self.invariant.standing
    (left_within _ c.in-Some.open.stage c.in-Some.open.number c.leave.new.agenda.list c.leave.new.agenda.room c.leave.new.preserve c.take.new.self c.leave.new.areas.items c.leave.new.records c.self.invariant.within c.leave.ensures.list c.leave.ensures.batches c.leave.ensures.room)

pub returns : goal.returns
returns c =
    calm_from _ _ c.self.view_is _ _ _
    (aborted_some_from _ _ c.self.view_is c.args.session c.leave.new.agenda.room c.in-Some.open c.leave.new.agenda.list c.leave.new.preserve c.take.new.self c.leave.new.areas.items c.leave.new.records (sym c.in-Some.is ∙ c.take.ensures.taken) c.take.ensures.left c.leave.ensures.list c.leave.ensures.batches c.leave.ensures.areas c.leave.ensures.records)
    (log_kept _) (inr tt)
