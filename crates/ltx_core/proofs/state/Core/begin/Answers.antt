use Rattle.std.proofs.Common.{◌<◌, append-nil, refl, sym, inr, arith}
use Rattle.ltx_model.specs.Limits.{last_number}
use Rattle.ltx_core.proofs.LogSteps.{log_kept, calm_from}
use Rattle.ltx_core.proofs.LogWithin.{roomed_itself}
use Rattle.ltx_core.proofs.Begun.{steps_for_view, stays_for_view, short_has, short_full, short_begins, put_reserved, begin_failed, short_core, none_left}
use Rattle.ltx_core.proofs.state.Core.begin.Goals as goal

pub returns-then-has-clause-ok : goal.returns-then-has-clause-ok
returns-then-has-clause-ok c = stays_for_view _ _ _ _ c.self.view_is (short_has _ c.args.session c.has.result c.has.ensures c.if-has.true) (inr tt)

pub invariant_of-self : goal.invariant_of-self
invariant_of-self c = begin_failed _ _ c.self.invariant refl refl refl refl refl refl c.reserve.ensures.kept refl refl refl (roomed_itself _) (omega arith) c.self.invariant.within.listed

pub invariant_of-self-in-Some : goal.invariant_of-self-in-Some
invariant_of-self-in-Some c =
    let within = c.in-Some.ensures.within.0 refl in
    let bound = within.1 in
    let room : c.self.inside.last < last_number = omega (arith, bound) in
    short_core _ c.self.invariant c.args.session c.has.result c.has.ensures c.short.result c.in-Some.tx _ c.if-has.false room c.in-Some.ensures.value c.short.ensures.number c.short.ensures.stage c.short.ensures.notes c.short.ensures.writes
    (record { counters = refl; list = refl; commits = refl; batch = refl; store = refl; preserve = sym (append-nil _); opens = put_reserved _ _ _ c.args.session _ c.reserve.ensures.kept c.put.ensures.put; records = refl; areas = sym (append-nil _) }) refl refl

pub returns-in-None-clause-ok : goal.returns-in-None-clause-ok
returns-in-None-clause-ok c =
    stays_for_view _ _ _ _ c.self.view_is (short_full _ c.args.session c.has.result c.has.ensures c.if-has.false (none_left c.self.inside.last c.in-None.ensures.outside c.self.invariant.within.last_bound)) (inr tt)

pub returns-in_ok-reserve-in-Some-clause-ok : goal.returns-in_ok-reserve-in-Some-clause-ok
returns-in_ok-reserve-in-Some-clause-ok c =
    let within = c.in-Some.ensures.within.0 refl in
    let bound = within.1 in
    let room : c.self.inside.last < last_number = omega (arith, bound) in
    calm_from _ _ c.self.view_is _ _ _
    (steps_for_view _ _ _ _ _ c.self.view_is (short_begins _ c.args.session c.has.result c.has.ensures c.short.result c.in-Some.tx _ c.if-has.false room c.in-Some.ensures.value c.short.ensures.number c.short.ensures.stage c.short.ensures.notes c.short.ensures.writes
    (record { counters = refl; list = refl; commits = refl; batch = refl; store = refl; preserve = sym (append-nil _); opens = put_reserved _ _ _ c.args.session _ c.reserve.ensures.kept c.put.ensures.put; records = refl; areas = sym (append-nil _) }))) (log_kept _) (inr tt)
