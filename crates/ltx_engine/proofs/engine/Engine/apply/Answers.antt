use Rattle.std.proofs.Common.{refl}
use Rattle.ltx_model.specs.declared.commands.Line.TheVariants.{Good}
use Rattle.ltx_engine.specs.Views.{EngineView}
use Rattle.ltx_engine.proofs.Running.{either_same, durable_same, core_replies, core_goes, core_runs}
use Rattle.ltx_engine.proofs.engine.Engine.apply.Goals as goal

pub returns-in_default-clause-since : goal.returns-in_default-clause-since
returns-in_default-clause-since g c =
    let old : EngineView = record { core = c.self.inside.core; log = c.self.inside.log } in
    rw (← c.self.view_is) (either_same old (record { core = c.step.new.self; log = c.self.inside.log }) c.self.invariant refl)

pub invariant_of-self-2 : goal.invariant_of-self-2
invariant_of-self-2 g c =
    let old : EngineView = record { core = c.self.inside.core; log = c.self.inside.log } in
    core_runs old (record { core = c.step.new.self; log = c.self.inside.log }) (Good c.args.command.now) c.in-Ok.reply c.requires.other refl c.in-Ok.ensures.reply c.in-Ok.ensures.stands c.self.invariant

pub returns-clause-stands : goal.returns-clause-stands
returns-clause-stands g c =
    let old : EngineView = record { core = c.self.inside.core; log = c.self.inside.log } in
    rw (← c.self.view_is)
    (core_goes old (record { core = c.step.new.self; log = c.self.inside.log }) (Good c.args.command.now) c.in-Ok.reply c.requires.other refl c.in-Ok.ensures.reply c.in-Ok.ensures.stands)

pub returns-clause-since : goal.returns-clause-since
returns-clause-since g c =
    let old : EngineView = record { core = c.self.inside.core; log = c.self.inside.log } in
    rw (← c.self.view_is) (either_same old (record { core = c.step.new.self; log = c.self.inside.log }) c.self.invariant refl)

pub returns-clause-now : goal.returns-clause-now
returns-clause-now g c =
    let old : EngineView = record { core = c.self.inside.core; log = c.self.inside.log } in
    let new : EngineView = record { core = c.step.new.self; log = c.self.inside.log } in
    rw (← c.self.view_is)
    (durable_same old new (Good c.args.command.now) c.in-Ok.reply c.self.invariant refl
    (core_replies old new (Good c.args.command.now) c.in-Ok.reply c.requires.other refl c.in-Ok.ensures.reply c.in-Ok.ensures.stands)
    (core_goes old new (Good c.args.command.now) c.in-Ok.reply c.requires.other refl c.in-Ok.ensures.reply c.in-Ok.ensures.stands))
