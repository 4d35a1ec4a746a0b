use Rattle.std.proofs.Common.{sym, ◌∙◌}
use Rattle.ltx_core.proofs.CoreSteps.{core_step_from}
use Rattle.ltx_core.proofs.Ended.{known_as, left_within}
use Rattle.ltx_core.proofs.HomeAnswers.{commits_at}
use Rattle.ltx_core.proofs.PlacedCommits.{refused_steps}
use Rattle.ltx_core.proofs.state.Core.refuse.Goals as goal

pub leave-requires : goal.leave-requires
leave-requires c = record { known = known_as _ c.self.invariant.standing c.args.session c.in-Some.open (sym c.take.ensures.taken ∙ c.in-Some.is) }

pub invariant_of-self-2 : goal.invariant_of-self-2
invariant_of-self-2 c =
    core_step_from _ _ c.self.view_is (commits_at c.args.session) c.args.reply _
    (refused_steps _ _ c.self.view_is c.args.session c.requires.live c.in-Some.open (sym c.in-Some.is ∙ c.take.ensures.taken) c.args.reply c.requires.refused c.take.new.self c.take.ensures.left c.leave.new.agenda.room c.leave.new.agenda.list
    c.leave.new.preserve c.leave.new.areas.items c.leave.new.records c.leave.ensures.list c.leave.ensures.batches c.leave.ensures.areas c.leave.ensures.records).steps
    c.self.invariant.standing
    (left_within _ c.in-Some.open.stage c.in-Some.open.number c.leave.new.agenda.list c.leave.new.agenda.room c.leave.new.preserve c.take.new.self c.leave.new.areas.items c.leave.new.records c.self.invariant.within
    c.leave.ensures.list c.leave.ensures.batches c.leave.ensures.room)

pub returns : goal.returns
returns c =
    refused_steps _ _ c.self.view_is c.args.session c.requires.live c.in-Some.open (sym c.in-Some.is ∙ c.take.ensures.taken) c.args.reply c.requires.refused c.take.new.self c.take.ensures.left c.leave.new.agenda.room c.leave.new.agenda.list
    c.leave.new.preserve c.leave.new.areas.items c.leave.new.records c.leave.ensures.list c.leave.ensures.batches c.leave.ensures.areas c.leave.ensures.records
