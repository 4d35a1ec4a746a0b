use Rattle.std.proofs.Common.{refl}
use Rattle.ltx_engine.specs.Views.{EngineView}
use Rattle.ltx_engine.proofs.Running.{either_same, durable_same, bad_replies, bad_goes}
use Rattle.ltx_engine.proofs.engine.Engine.reject.Goals as goal

pub returns-clause-reply : goal.returns-clause-reply
returns-clause-reply g c = bad_replies c.args.self.now c.args.cause

pub returns-clause-stands : goal.returns-clause-stands
returns-clause-stands g c = bad_goes c.args.self.now c.args.cause

pub returns-clause-since : goal.returns-clause-since
returns-clause-since g c =
    let old : EngineView = record { core = c.self.inside.core; log = c.self.inside.log } in
    rw (← c.self.view_is) (either_same old old c.self.invariant refl)

pub returns-clause-now : goal.returns-clause-now
returns-clause-now g c =
    let old : EngineView = record { core = c.self.inside.core; log = c.self.inside.log } in
    rw (← c.self.view_is) (durable_same old old _ _ c.self.invariant refl (bad_replies old c.args.cause) (bad_goes old c.args.cause))
