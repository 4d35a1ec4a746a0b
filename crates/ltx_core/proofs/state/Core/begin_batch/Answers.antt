use Rattle.std.proofs.Common.{◌≡◌, ◌++◌, ◌∷◌, [], ◌∙◌, ap, ◌<◌, ◌≤◌, ◌+◌, length, refl, subst, inr, arith}
use Rattle.ltx_model.specs.Limits.{last_number}
use Rattle.ltx_core.proofs.LogSteps.{calm_from}
use Rattle.ltx_core.proofs.LogWithin.{roomed_itself, roomed_log}
use Rattle.ltx_core.proofs.Begun.{steps_for_view, stays_for_view, long_has, long_late, long_full, long_begins, long_core, put_reserved, begin_failed, none_left, standing_new, standing_few}
use Rattle.ltx_core.proofs.state.Core.begin_batch.Goals as goal

pub returns-then-has-clause-ok : goal.returns-then-has-clause-ok
returns-then-has-clause-ok c = stays_for_view _ _ _ _ c.self.view_is (long_has _ c.args.session c.has.result c.has.ensures c.args.writes c.args.reads c.if-has.true) (inr tt)

pub returns-then-self-clause-ok : goal.returns-then-self-clause-ok
returns-then-self-clause-ok c = stays_for_view _ _ _ _ c.self.view_is (long_late _ c.args.session c.has.result c.has.ensures c.args.writes c.args.reads c.if-has.false c.if-self.true) (inr tt)

pub overflow_add-slots : goal.overflow_add-slots
overflow_add-slots c =
    let few : length c.self.inside.preserve ≤ c.self.inside.last = standing_few _ c.self.invariant.standing in
    let most : c.self.inside.last ≤ last_number = c.self.invariant.within.last_bound in
    let same : c.len-slots.result ≡ length c.self.inside.preserve = c.len-slots.ensures in
    omega arith

pub invariant_of-self : goal.invariant_of-self
invariant_of-self c =
    begin_failed _ _ c.self.invariant refl c.reserve.ensures.list refl refl refl refl (λ n. refl) refl refl refl (roomed_itself _) c.reserve.ensures.kept c.reserve.ensures.fits

pub invariant_of-self-in_err-reserve-in-Some-2 : goal.invariant_of-self-in_err-reserve-in-Some-2
invariant_of-self-in_err-reserve-in-Some-2 c =
    begin_failed _ _ c.self.invariant refl c.reserve.ensures.list refl refl refl refl (λ n. refl) refl refl refl
    (record { closed = c.reserve-in-Some.ensures.closed; present = c.reserve-in-Some.ensures.present; last = c.reserve-in-Some.ensures.last; room = c.reserve-in-Some.ensures.kept }) c.reserve.ensures.kept c.reserve.ensures.fits

pub invariant_of-self-in_err-reserve-in-Some-3 : goal.invariant_of-self-in_err-reserve-in-Some-3
invariant_of-self-in_err-reserve-in-Some-3 c =
    begin_failed _ _ c.self.invariant refl c.reserve.ensures.list refl refl refl refl c.reserve-in-Some-2.ensures.kept refl refl refl
    (record { closed = c.reserve-in-Some.ensures.closed; present = c.reserve-in-Some.ensures.present; last = c.reserve-in-Some.ensures.last; room = c.reserve-in-Some.ensures.kept }) c.reserve.ensures.kept c.reserve.ensures.fits

pub invariant_of-self-in_err-reserve-in-Some-4 : goal.invariant_of-self-in_err-reserve-in-Some-4
invariant_of-self-in_err-reserve-in-Some-4 c =
    begin_failed _ _ c.self.invariant refl c.reserve.ensures.list refl refl refl refl c.reserve-in-Some-2.ensures.kept refl c.reserve-in-Some-3.ensures.items refl
    (record { closed = c.reserve-in-Some.ensures.closed; present = c.reserve-in-Some.ensures.present; last = c.reserve-in-Some.ensures.last; room = c.reserve-in-Some.ensures.kept }) c.reserve.ensures.kept c.reserve.ensures.fits

pub add-requires : goal.add-requires
add-requires c = record { absent = standing_new _ c.in-Some.tx c.self.invariant.standing c.in-Some.ensures.value }

pub invariant_of-self-in_err-add-in-Some : goal.invariant_of-self-in_err-add-in-Some
invariant_of-self-in_err-add-in-Some c =
    begin_failed _ _ c.self.invariant refl c.reserve.ensures.list refl refl refl c.in_err-add-in-Some.ensures.kept c.reserve-in-Some-2.ensures.kept refl c.reserve-in-Some-3.ensures.items refl
    (record { closed = c.reserve-in-Some.ensures.closed; present = c.reserve-in-Some.ensures.present; last = c.reserve-in-Some.ensures.last; room = c.reserve-in-Some.ensures.kept }) c.reserve.ensures.kept c.reserve.ensures.fits

pub invariant_of-self-in-Some : goal.invariant_of-self-in-Some
invariant_of-self-in-Some c =
    let within = c.in-Some.ensures.within.0 refl in
    let bound = within.1 in
    let below : c.self.inside.last < last_number = omega (arith, bound) in
    let room : length c.self.inside.preserve + 1 ≤ c.reserve.new.self.room = subst (λ n. n + 1 ≤ c.reserve.new.self.room) c.len-slots.ensures c.in_ok-reserve-in-Some.ensures.made in
    let spare : length c.self.inside.preserve + 1 ≤ c.reserve-in-Some.new.self.room = subst (λ n. n + 1 ≤ c.reserve-in-Some.new.self.room) c.len-slots.ensures c.in_ok-reserve-in-Some-2.ensures.made in
    long_core _ c.self.invariant c.args.session c.has.result c.has.ensures c.batch.result c.in-Some.tx c.args.writes c.args.reads _ _ c.if-has.false c.if-self.false below c.in-Some.ensures.value refl
    c.batch.ensures.number c.batch.ensures.stage c.batch.ensures.notes c.batch.ensures.writes
    (record { counters = refl; list = c.reserve.ensures.list; commits = refl; batch = refl; store = refl; preserve = c.in_ok-add-in-Some.ensures.added; opens = put_reserved _ _ _ c.args.session _ c.reserve-in-Some-2.ensures.kept c.put.ensures.put; records = refl; areas = c.push_reserved.ensures.items ∙ ap (λ l. l ++ record { tx = c.in-Some.tx; writes = c.args.writes; reads = c.args.reads } ∷ []) c.reserve-in-Some-3.ensures.items })
    room c.reserve.ensures.fits
    (record { closed = c.reserve-in-Some.ensures.closed; present = c.reserve-in-Some.ensures.present; last = c.reserve-in-Some.ensures.last; room = c.reserve-in-Some.ensures.kept }) spare

pub returns-in-None-clause-ok : goal.returns-in-None-clause-ok
returns-in-None-clause-ok c =
    stays_for_view _ _ _ _ c.self.view_is (long_full _ c.args.session c.has.result c.has.ensures c.args.writes c.args.reads c.if-has.false c.if-self.false (none_left c.self.inside.last c.in-None.ensures.outside c.self.invariant.within.last_bound)) (inr tt)

pub returns-in_ok-add-in-Some-clause-ok : goal.returns-in_ok-add-in-Some-clause-ok
returns-in_ok-add-in-Some-clause-ok c =
    let within = c.in-Some.ensures.within.0 refl in
    let bound = within.1 in
    let below : c.self.inside.last < last_number = omega (arith, bound) in
    calm_from _ _ c.self.view_is _ _ _
    (steps_for_view _ _ _ _ _ c.self.view_is
    (long_begins _ c.args.session c.has.result c.has.ensures c.batch.result c.in-Some.tx c.args.writes c.args.reads _ _ c.if-has.false c.if-self.false below c.in-Some.ensures.value refl
    c.batch.ensures.number c.batch.ensures.stage c.batch.ensures.notes c.batch.ensures.writes
    (record { counters = refl; list = c.reserve.ensures.list; commits = refl; batch = refl; store = refl; preserve = c.in_ok-add-in-Some.ensures.added; opens = put_reserved _ _ _ c.args.session _ c.reserve-in-Some-2.ensures.kept c.put.ensures.put; records = refl; areas = c.push_reserved.ensures.items ∙ ap (λ l. l ++ record { tx = c.in-Some.tx; writes = c.args.writes; reads = c.args.reads } ∷ []) c.reserve-in-Some-3.ensures.items }))) (roomed_log _ _ _
    (record { closed = c.reserve-in-Some.ensures.closed; present = c.reserve-in-Some.ensures.present; last = c.reserve-in-Some.ensures.last; room = c.reserve-in-Some.ensures.kept })) (inr tt)
