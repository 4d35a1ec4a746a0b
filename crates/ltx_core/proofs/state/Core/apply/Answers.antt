use Rattle.std.proofs.Common.{refl, sym, subst, inr}
use Rattle.ltx_model.specs.declared.commands.Command.TheVariants.{Prune}
use Rattle.ltx_model.specs.declared.replies.Reply.TheVariants.{Later}
use Rattle.ltx_core.specs.Steps.{IsAnswered}
use Rattle.ltx_core.proofs.LogSteps.{log_kept, calm_answered}
use Rattle.ltx_core.proofs.StandsStill.{later_steps}
use Rattle.ltx_core.proofs.state.Core.apply.Goals as goal

pub returns-in-Flush-clause-ok : goal.returns-in-Flush-clause-ok
returns-in-Flush-clause-ok c = absurd (c.requires.unflushed c.in-Flush.is)

pub returns-in-Prune-clause-ok : goal.returns-in-Prune-clause-ok
returns-in-Prune-clause-ok c =
    subst (λ command. IsAnswered c.args.self.now command Later c.args.self.now) (sym c.in-Prune.is) (calm_answered c.args.self.now Prune Later c.args.self.now (later_steps c.args.self.now Prune (λ s. refl)) (log_kept c.args.self.now.log) (inr tt))
