use Rattle.std.proofs.Common.{refl}
use Rattle.ltx_engine.specs.Views.{EngineView, MustWrite}
use Rattle.ltx_engine.proofs.Running.{either_same, durable_same}
use Rattle.ltx_engine.proofs.Flushing.{IsSealed, HasAppended, may_append, append_leaves, full_replies, full_goes, written_replies, written_goes, written_durable, written_runs}
use Rattle.ltx_engine.proofs.engine.Engine.write.Goals as goal

pub append-requires : goal.append-requires
append-requires g c = record { above = may_append (record { core = c.self.inside.core; log = c.self.inside.log }) c.args.frame.now (rw (← c.self.view_is) at c.requires.must) (rw (← c.self.view_is) at c.requires.frame) c.self.invariant }

pub invariant_of-self : goal.invariant_of-self
invariant_of-self g c =
    let old : EngineView = record { core = c.self.inside.core; log = c.self.inside.log } in
    let must : MustWrite old = rw (← c.self.view_is) at c.requires.must in
    let is : IsSealed old c.args.frame.now = rw (← c.self.view_is) at c.requires.frame in
    let new : EngineView = record { core = c.flushed.new.self; log = c.append.new.self } in
    let appended : HasAppended old.log new.log c.args.frame.now = record {
      was = c.in-Ok.ensures.running.0;
      runs = c.in-Ok.ensures.running.1;
      room = c.in-Ok.ensures.room;
      gate = c.in-Ok.ensures.gate;
      last = c.in-Ok.ensures.last;
      frames = c.in-Ok.ensures.frames;
      untold = c.append.ensures.untold;
      still = c.append.ensures.settled c.in-Ok.ensures.running.1;
    } in
    written_runs old c.args.frame.now must is new appended c.flushed.ensures.stands c.self.invariant

pub returns-in-Ok-clause-reply : goal.returns-in-Ok-clause-reply
returns-in-Ok-clause-reply g c =
    let old : EngineView = record { core = c.self.inside.core; log = c.self.inside.log } in
    let must : MustWrite old = rw (← c.self.view_is) at c.requires.must in
    let is : IsSealed old c.args.frame.now = rw (← c.self.view_is) at c.requires.frame in
    let new : EngineView = record { core = c.flushed.new.self; log = c.append.new.self } in
    let appended : HasAppended old.log new.log c.args.frame.now = record {
      was = c.in-Ok.ensures.running.0;
      runs = c.in-Ok.ensures.running.1;
      room = c.in-Ok.ensures.room;
      gate = c.in-Ok.ensures.gate;
      last = c.in-Ok.ensures.last;
      frames = c.in-Ok.ensures.frames;
      untold = c.append.ensures.untold;
      still = c.append.ensures.settled c.in-Ok.ensures.running.1;
    } in
    rw (← c.self.view_is, c.epoch.ensures.value) (written_replies old c.args.frame.now must is new appended c.flushed.ensures.stands)

pub returns-in-Ok-clause-stands : goal.returns-in-Ok-clause-stands
returns-in-Ok-clause-stands g c =
    let old : EngineView = record { core = c.self.inside.core; log = c.self.inside.log } in
    let must : MustWrite old = rw (← c.self.view_is) at c.requires.must in
    let is : IsSealed old c.args.frame.now = rw (← c.self.view_is) at c.requires.frame in
    let new : EngineView = record { core = c.flushed.new.self; log = c.append.new.self } in
    let appended : HasAppended old.log new.log c.args.frame.now = record {
      was = c.in-Ok.ensures.running.0;
      runs = c.in-Ok.ensures.running.1;
      room = c.in-Ok.ensures.room;
      gate = c.in-Ok.ensures.gate;
      last = c.in-Ok.ensures.last;
      frames = c.in-Ok.ensures.frames;
      untold = c.append.ensures.untold;
      still = c.append.ensures.settled c.in-Ok.ensures.running.1;
    } in
    rw (← c.self.view_is, c.epoch.ensures.value) (written_goes old c.args.frame.now must is new appended c.flushed.ensures.stands)

pub returns-in-Ok-clause-now : goal.returns-in-Ok-clause-now
returns-in-Ok-clause-now g c =
    let old : EngineView = record { core = c.self.inside.core; log = c.self.inside.log } in
    let must : MustWrite old = rw (← c.self.view_is) at c.requires.must in
    let is : IsSealed old c.args.frame.now = rw (← c.self.view_is) at c.requires.frame in
    let new : EngineView = record { core = c.flushed.new.self; log = c.append.new.self } in
    let appended : HasAppended old.log new.log c.args.frame.now = record {
      was = c.in-Ok.ensures.running.0;
      runs = c.in-Ok.ensures.running.1;
      room = c.in-Ok.ensures.room;
      gate = c.in-Ok.ensures.gate;
      last = c.in-Ok.ensures.last;
      frames = c.in-Ok.ensures.frames;
      untold = c.append.ensures.untold;
      still = c.append.ensures.settled c.in-Ok.ensures.running.1;
    } in
    rw (← c.self.view_is, c.epoch.ensures.value) (written_durable old c.args.frame.now must is new appended c.flushed.ensures.stands)

pub returns-in-Ok-clause-since : goal.returns-in-Ok-clause-since
returns-in-Ok-clause-since g c =
    let old : EngineView = record { core = c.self.inside.core; log = c.self.inside.log } in
    let must : MustWrite old = rw (← c.self.view_is) at c.requires.must in
    let is : IsSealed old c.args.frame.now = rw (← c.self.view_is) at c.requires.frame in
    let new : EngineView = record { core = c.flushed.new.self; log = c.append.new.self } in
    rw (← c.self.view_is) (append_leaves old c.args.frame.now must is new c.in-Ok.ensures.room (c.append.ensures.since c.in-Ok.ensures.running.0))

pub returns-in-Err-LimitLog-clause-reply : goal.returns-in-Err-LimitLog-clause-reply
returns-in-Err-LimitLog-clause-reply g c =
    let old : EngineView = record { core = c.self.inside.core; log = c.self.inside.log } in
    let must : MustWrite old = rw (← c.self.view_is) at c.requires.must in
    let is : IsSealed old c.args.frame.now = rw (← c.self.view_is) at c.requires.frame in
    let new : EngineView = record { core = c.self.inside.core; log = c.append.new.self } in
    let cause = rw c.in-Err-LimitLog.field-0-is at c.in-Err-LimitLog.ensures.cause in
    rw (← c.self.view_is) (full_replies old c.args.frame.now must is cause.1)

pub returns-in-Err-LimitLog-clause-stands : goal.returns-in-Err-LimitLog-clause-stands
returns-in-Err-LimitLog-clause-stands g c =
    let old : EngineView = record { core = c.self.inside.core; log = c.self.inside.log } in
    let must : MustWrite old = rw (← c.self.view_is) at c.requires.must in
    let is : IsSealed old c.args.frame.now = rw (← c.self.view_is) at c.requires.frame in
    let new : EngineView = record { core = c.self.inside.core; log = c.append.new.self } in
    let cause = rw c.in-Err-LimitLog.field-0-is at c.in-Err-LimitLog.ensures.cause in
    rw (← c.self.view_is) (full_goes old c.args.frame.now must is new refl cause.2)

pub returns-in-Err-LimitLog-clause-since : goal.returns-in-Err-LimitLog-clause-since
returns-in-Err-LimitLog-clause-since g c =
    let old : EngineView = record { core = c.self.inside.core; log = c.self.inside.log } in
    let must : MustWrite old = rw (← c.self.view_is) at c.requires.must in
    let is : IsSealed old c.args.frame.now = rw (← c.self.view_is) at c.requires.frame in
    let new : EngineView = record { core = c.self.inside.core; log = c.append.new.self } in
    let cause = rw c.in-Err-LimitLog.field-0-is at c.in-Err-LimitLog.ensures.cause in
    rw (← c.self.view_is) (either_same old new c.self.invariant cause.2)

pub returns-in-Err-LimitLog-clause-now : goal.returns-in-Err-LimitLog-clause-now
returns-in-Err-LimitLog-clause-now g c =
    let old : EngineView = record { core = c.self.inside.core; log = c.self.inside.log } in
    let must : MustWrite old = rw (← c.self.view_is) at c.requires.must in
    let is : IsSealed old c.args.frame.now = rw (← c.self.view_is) at c.requires.frame in
    let new : EngineView = record { core = c.self.inside.core; log = c.append.new.self } in
    let cause = rw c.in-Err-LimitLog.field-0-is at c.in-Err-LimitLog.ensures.cause in
    rw (← c.self.view_is) (durable_same old new _ _ c.self.invariant cause.2 (full_replies old c.args.frame.now must is cause.1) (full_goes old c.args.frame.now must is new refl cause.2))

pub returns-in-Err-NoMemory-clause-since : goal.returns-in-Err-NoMemory-clause-since
returns-in-Err-NoMemory-clause-since g c =
    let old : EngineView = record { core = c.self.inside.core; log = c.self.inside.log } in
    let new : EngineView = record { core = c.self.inside.core; log = c.append.new.self } in
    let cause = rw c.in-Err-NoMemory.field-0-is at c.in-Err-NoMemory.ensures.cause in
    rw (← c.self.view_is) (either_same old new c.self.invariant cause.1)

pub returns-in-Err-DiskFault-clause-since : goal.returns-in-Err-DiskFault-clause-since
returns-in-Err-DiskFault-clause-since g c =
    let old : EngineView = record { core = c.self.inside.core; log = c.self.inside.log } in
    let must : MustWrite old = rw (← c.self.view_is) at c.requires.must in
    let is : IsSealed old c.args.frame.now = rw (← c.self.view_is) at c.requires.frame in
    let new : EngineView = record { core = c.self.inside.core; log = c.append.new.self } in
    let cause = rw c.in-Err-DiskFault.field-0-is at c.in-Err-DiskFault.ensures.cause in
    rw (← c.self.view_is) (append_leaves old c.args.frame.now must is new cause.1 (c.append.ensures.since cause.0))

pub returns-in-Err-LimitLog-clause-full : goal.returns-in-Err-LimitLog-clause-full
returns-in-Err-LimitLog-clause-full g c =
    let cause = rw c.in-Err-LimitLog.field-0-is at c.in-Err-LimitLog.ensures.cause in
    rw (← c.self.view_is) (λ is i. record { core = c.self.inside.core; log = cause.2 i })
