use Rattle.std.proofs.Common.{true, ℕ, ◌≡◌, ◌-◌, refl, sym, ap, ◌∙◌, arith}
use Rattle.ltx_engine.specs.Views.{EngineView, MustWrite}
use Rattle.ltx_engine.proofs.Running.{ahead, either_same, durable_same, idle_replies, idle_goes}
use Rattle.ltx_engine.proofs.engine.Engine.flush.Goals as goal

pub overflow_sub-closed : goal.overflow_sub-closed
overflow_sub-closed g c = omega (arith, ahead (record { core = c.self.inside.core; log = c.self.inside.log }) c.self.invariant, c.epoch-closed.ensures.counter)

pub sealed-requires : goal.sealed-requires
sealed-requires g c = record { closed = omega (arith, ahead (record { core = c.self.inside.core; log = c.self.inside.log }) c.self.invariant, c.epoch-closed.ensures.counter, c.durable-durable.ensures.kept, c.if-closed-durable.false) }

pub write-requires-clause-must : goal.write-requires-clause-must
write-requires-clause-must g c = rw (← c.self.view_is) (omega (arith, ahead (record { core = c.self.inside.core; log = c.self.inside.log }) c.self.invariant, c.epoch-closed.ensures.counter, c.durable-durable.ensures.kept, c.if-closed-durable.false))

pub returns-then-closed-durable-clause-reply : goal.returns-then-closed-durable-clause-reply
returns-then-closed-durable-clause-reply g c =
    let old : EngineView = record { core = c.self.inside.core; log = c.self.inside.log } in
    let last : old.core.counters.epoch - 1 ≡ c.durable-durable.result = ap (λ (e : ℕ). e - 1) (sym c.epoch-closed.ensures.counter) ∙ c.if-closed-durable.true in
    rw (← c.self.view_is) (idle_replies old c.durable-durable.result c.durable-durable.ensures.kept last)

pub returns-then-closed-durable-clause-stands : goal.returns-then-closed-durable-clause-stands
returns-then-closed-durable-clause-stands g c =
    let old : EngineView = record { core = c.self.inside.core; log = c.self.inside.log } in
    let last : old.core.counters.epoch - 1 ≡ c.durable-durable.result = ap (λ (e : ℕ). e - 1) (sym c.epoch-closed.ensures.counter) ∙ c.if-closed-durable.true in
    rw (← c.self.view_is) (idle_goes old c.durable-durable.result c.durable-durable.ensures.kept last)

pub returns-then-closed-durable-clause-since : goal.returns-then-closed-durable-clause-since
returns-then-closed-durable-clause-since g c =
    let old : EngineView = record { core = c.self.inside.core; log = c.self.inside.log } in
    rw (← c.self.view_is) (either_same old old c.self.invariant refl)

pub returns-then-closed-durable-clause-now : goal.returns-then-closed-durable-clause-now
returns-then-closed-durable-clause-now g c =
    let old : EngineView = record { core = c.self.inside.core; log = c.self.inside.log } in
    let last : old.core.counters.epoch - 1 ≡ c.durable-durable.result = ap (λ (e : ℕ). e - 1) (sym c.epoch-closed.ensures.counter) ∙ c.if-closed-durable.true in
    rw (← c.self.view_is) (durable_same old old _ _ c.self.invariant refl (idle_replies old c.durable-durable.result c.durable-durable.ensures.kept last) (idle_goes old c.durable-durable.result c.durable-durable.ensures.kept last))

pub returns-in_default-clause-since : goal.returns-in_default-clause-since
returns-in_default-clause-since g c =
    let old : EngineView = record { core = c.self.inside.core; log = c.self.inside.log } in
    rw (← c.self.view_is) (either_same old old c.self.invariant refl)

pub returns-then-closed-clause-cause : goal.returns-then-closed-clause-cause
returns-then-closed-clause-cause g c =
    let old : EngineView = record { core = c.self.inside.core; log = c.self.inside.log } in
    let must : MustWrite old = omega (arith, ahead old c.self.invariant, c.epoch-closed.ensures.counter, c.durable-durable.ensures.kept, c.if-closed-durable.false) in
    let shut : old.log.closed ≡ true = sym c.closed.ensures ∙ c.if-closed.true in
    (record { flush = refl; must = rw (← c.self.view_is) must }, rw (← c.self.view_is) shut, refl)

pub returns-then-closed-clause-closed : goal.returns-then-closed-clause-closed
returns-then-closed-clause-closed g c =
    let old : EngineView = record { core = c.self.inside.core; log = c.self.inside.log } in
    let must : MustWrite old = omega (arith, ahead old c.self.invariant, c.epoch-closed.ensures.counter, c.durable-durable.ensures.kept, c.if-closed-durable.false) in
    let shut : old.log.closed ≡ true = sym c.closed.ensures ∙ c.if-closed.true in
    ((λ is. (rw (← c.self.view_is) must, rw (← c.self.view_is) shut)), (λ is. refl))

pub returns-clause-idle : goal.returns-clause-idle
returns-clause-idle g c =
    let old : EngineView = record { core = c.self.inside.core; log = c.self.inside.log } in
    let must : MustWrite old = omega (arith, ahead old c.self.invariant, c.epoch-closed.ensures.counter, c.durable-durable.ensures.kept, c.if-closed-durable.false) in
    λ none. absurd (none (rw (← c.self.view_is) must))
