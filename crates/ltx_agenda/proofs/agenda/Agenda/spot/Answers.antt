use Rattle.std.proofs.Common.{◌≡◌, ◌+◌, ◌<◌, ◌≤◌, false, IfNone, length, take, get_or, ap, ◌∙◌, sym, subst, arith}
use Rattle.ltx_model.specs.Listings.{is_member, place_of}
use Rattle.ltx_agenda.specs.Lanes.{total}
use Rattle.ltx_agenda.specs.Placed.{Listed, IsSpot}
use Rattle.ltx_agenda.proofs.Joined.{member_not_right}
use Rattle.ltx_agenda.proofs.Spots.{lies_first_at, lies_later_at, lies_settled, walked_past, walked_to, spot_order}
use Rattle.ltx_agenda.proofs.agenda.Agenda.spot.Goals as goal

pub overflow_add-lane : goal.overflow_add-lane
overflow_add-lane c =
    let len = c.len.ensures in
    let room = c.self.invariant.lens_room in
    let low = c.in-Some.ensures.some.lane_bound in
    let many = c.spot.ensures.many in
    omega arith

pub overflow_add-place : goal.overflow_add-place
overflow_add-place c =
    let low = c.in-Some.ensures.some.place_bound in
    let room = c.self.invariant.settled_room in
    let fits = c.self.invariant.fits in
    omega arith

pub returns-then-spot-eq0-clause-some : goal.returns-then-spot-eq0-clause-some
returns-then-spot-eq0-clause-some c =
    let len = c.len.ensures ∙ c.self.inside.lens.ok.0 in
    subst (λ (v : Listed). IsSpot v c.args.tx (record { lane = c.len.result + c.in-Some.spot.lane; place = c.self.inside.open + c.in-Some.spot.place })) c.self.view_is
    (lies_first_at _ _ _ _ _ _ _ c.self.invariant c.args.tx c.in-Some.spot c.len.result c.in-Some.ensures.some c.if-spot-eq0.true len)

pub returns-then-spot-eq0-clause-order : goal.returns-then-spot-eq0-clause-order
returns-then-spot-eq0-clause-order c = λ b t is. spot_order c.args.self.now c.args.tx b (record { lane = c.len.result + c.in-Some.spot.lane; place = c.self.inside.open + c.in-Some.spot.place }) t (
    let len = c.len.ensures ∙ c.self.inside.lens.ok.0 in
    subst (λ (v : Listed). IsSpot v c.args.tx (record { lane = c.len.result + c.in-Some.spot.lane; place = c.self.inside.open + c.in-Some.spot.place })) c.self.view_is
    (lies_first_at _ _ _ _ _ _ _ c.self.invariant c.args.tx c.in-Some.spot c.len.result c.in-Some.ensures.some c.if-spot-eq0.true len)) is

pub returns-in-Some-clause-some : goal.returns-in-Some-clause-some
returns-in-Some-clause-some c =
    let len = c.len.ensures ∙ c.self.inside.lens.ok.0 in
    let later : 0 < c.in-Some.spot.lane = let differ = c.if-spot-eq0.false in omega arith in
    subst (λ (v : Listed). IsSpot v c.args.tx (record { lane = c.len.result + c.in-Some.spot.lane; place = c.in-Some.spot.place })) c.self.view_is
    (lies_later_at _ _ _ _ _ _ _ c.self.invariant c.args.tx c.in-Some.spot c.len.result c.in-Some.ensures.some later len)

pub returns-in-Some-clause-order : goal.returns-in-Some-clause-order
returns-in-Some-clause-order c = λ b t is. spot_order c.args.self.now c.args.tx b (record { lane = c.len.result + c.in-Some.spot.lane; place = c.in-Some.spot.place }) t (
    let len = c.len.ensures ∙ c.self.inside.lens.ok.0 in
    let later : 0 < c.in-Some.spot.lane = let differ = c.if-spot-eq0.false in omega arith in
    subst (λ (v : Listed). IsSpot v c.args.tx (record { lane = c.len.result + c.in-Some.spot.lane; place = c.in-Some.spot.place })) c.self.view_is
    (lies_later_at _ _ _ _ _ _ _ c.self.invariant c.args.tx c.in-Some.spot c.len.result c.in-Some.ensures.some later len)) is

pub returns-then-place-len-clause-none : goal.returns-then-place-len-clause-none
returns-then-place-len-clause-none c =
    let none = subst (λ o. IfNone o (is_member c.self.inside.lanes.list c.args.tx ≡ false)) c.in_default.is c.spot.ensures.none in
    let place = c.place-place.ensures ∙ ap (λ xs. place_of xs c.args.tx) c.deref.ensures.value in
    let len = c.len-2.ensures ∙ c.self.inside.settled.ok.0 in
    let there = c.if-place-len.true in
    let past : place_of c.self.inside.settled.items c.args.tx ≡ length c.self.inside.settled.items = omega arith in
    subst (λ (v : Listed). is_member v.list c.args.tx ≡ false) c.self.view_is (member_not_right c.self.inside.settled.items c.self.inside.lanes.list c.args.tx none ∙ walked_past c.self.inside.settled.items c.args.tx past)

pub returns-clause-some : goal.returns-clause-some
returns-clause-some c =
    let place = c.place-place.ensures ∙ ap (λ xs. place_of xs c.args.tx) c.deref.ensures.value in
    let len = c.len-2.ensures ∙ c.self.inside.settled.ok.0 in
    let differ = c.if-place-len.false in
    let lens = c.deref-2.ensures.value in
    subst (λ (v : Listed). IsSpot v c.args.tx c.spot_of.result) c.self.view_is
    (lies_settled _ _ _ _ _ _ _ c.self.invariant c.args.tx c.spot_of.result c.spot.ensures.number (walked_to c.self.inside.settled.items c.args.tx (λ e. differ (place ∙ e ∙ sym len)))
    (subst (λ ks. c.spot_of.result.lane ≤ length ks) lens c.spot_of.ensures.lane) (sym place ∙ subst (λ ks. c.place-place.result ≡ total (take c.spot_of.result.lane ks) + c.spot_of.result.place) lens c.spot_of.ensures.place)
    (subst (λ ks. c.spot_of.result.lane < length ks → c.spot_of.result.place < get_or ks c.spot_of.result.lane 0) lens c.spot_of.ensures.within))

pub returns-clause-order : goal.returns-clause-order
returns-clause-order c = λ b t is. spot_order c.args.self.now c.args.tx b c.spot_of.result t (
    let place = c.place-place.ensures ∙ ap (λ xs. place_of xs c.args.tx) c.deref.ensures.value in
    let len = c.len-2.ensures ∙ c.self.inside.settled.ok.0 in
    let differ = c.if-place-len.false in
    let lens = c.deref-2.ensures.value in
    subst (λ (v : Listed). IsSpot v c.args.tx c.spot_of.result) c.self.view_is
    (lies_settled _ _ _ _ _ _ _ c.self.invariant c.args.tx c.spot_of.result c.spot.ensures.number (walked_to c.self.inside.settled.items c.args.tx (λ e. differ (place ∙ e ∙ sym len)))
    (subst (λ ks. c.spot_of.result.lane ≤ length ks) lens c.spot_of.ensures.lane) (sym place ∙ subst (λ ks. c.place-place.result ≡ total (take c.spot_of.result.lane ks) + c.spot_of.result.place) lens c.spot_of.ensures.place)
    (subst (λ ks. c.spot_of.result.lane < length ks → c.spot_of.result.place < get_or ks c.spot_of.result.lane 0) lens c.spot_of.ensures.within))) is
