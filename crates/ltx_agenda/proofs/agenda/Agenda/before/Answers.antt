use Rattle.std.proofs.Common.{refl, ◌≡◌, ◌<◌, ◌↔◌, IsTrue, IfNone, true, false, nat_lt, ap, ◌∙◌, sym, subst, arith}
use Rattle.std.proofs.lemmas.Bool.Decides.{nat_tests}
use Rattle.ltx_model.specs.Listings.{is_member, place_of}
use Rattle.ltx_agenda.specs.Placed.{Listed}
use Rattle.ltx_agenda.proofs.Settling.{both_in_lanes, first_in_lanes, both_settled}
use Rattle.ltx_agenda.proofs.agenda.Agenda.before.Goals as goal

pub returns-in-Some-Some : goal.returns-in-Some-Some
returns-in-Some-Some c =
    subst (λ (v : Listed). IsTrue c.is_before.result ↔ (place_of v.list c.args.a < place_of v.list c.args.b)) c.self.view_is
    (both_in_lanes _ _ _ _ _ _ _ c.self.invariant c.args.a c.args.b c.in-Some-Some.x c.in-Some-Some.y c.in-Some-Some.ensures.some c.in-Some-Some.ensures'.some c.is_before.result c.is_before.ensures)

pub returns-in-Some-None : goal.returns-in-Some-None
returns-in-Some-None c =
    let second = subst (λ (v : Listed). is_member v.list c.args.b ≡ true) (sym c.self.view_is) c.requires.second in
    let after = subst (λ (v : Listed). place_of v.list c.args.b < place_of v.list c.args.a) c.self.view_is
    (first_in_lanes _ _ _ _ _ _ _ c.self.invariant c.args.a c.args.b c.in-Some-None.ensures.some.member second c.in-Some-None.ensures'.none) in
    (λ no. absurd (cc), λ lt. absurd (omega arith))

pub returns-in-None-Some : goal.returns-in-None-Some
returns-in-None-Some c =
    let first = subst (λ (v : Listed). is_member v.list c.args.a ≡ true) (sym c.self.view_is) c.requires.first in
    let after = subst (λ (v : Listed). place_of v.list c.args.a < place_of v.list c.args.b) c.self.view_is
    (first_in_lanes _ _ _ _ _ _ _ c.self.invariant c.args.b c.args.a c.in-None-Some.ensures.some.member first (subst (λ o. IfNone o (is_member c.self.inside.lanes.list c.args.a ≡ false)) c.in-None-Some.is-0 c.seat.ensures.none)) in
    (λ yes. omega arith, λ lt. refl)

pub returns-in-None-None : goal.returns-in-None-None
returns-in-None-None c =
    let first = subst (λ (v : Listed). is_member v.list c.args.a ≡ true) (sym c.self.view_is) c.requires.first in
    let second = subst (λ (v : Listed). is_member v.list c.args.b ≡ true) (sym c.self.view_is) c.requires.second in
    let none_a = subst (λ o. IfNone o (is_member c.self.inside.lanes.list c.args.a ≡ false)) c.in-None-None.is-0 c.seat.ensures.none in
    let none_b = subst (λ o. IfNone o (is_member c.self.inside.lanes.list c.args.b ≡ false)) c.in-None-None.is-1 c.seat-2.ensures.none in
    let both = both_settled c.self.inside.settled.items c.self.inside.lanes.list c.args.a c.args.b first second none_a none_b in
    let here = both.0 in
    let there = both.1 in
    let place_a = c.place.ensures ∙ ap (λ xs. place_of xs c.args.a) c.deref.ensures.value in
    let place_b = c.place-in-None-None.ensures ∙ ap (λ xs. place_of xs c.args.b) c.deref-in-None-None.ensures.value in
    subst (λ (v : Listed). IsTrue (nat_lt c.place.result c.place-in-None-None.result) ↔ (place_of v.list c.args.a < place_of v.list c.args.b)) c.self.view_is (
      λ yes. let less : c.place.result < c.place-in-None-None.result = grind (arith, nat_tests) in omega arith,
      λ lt. let less : c.place.result < c.place-in-None-None.result = omega arith in grind (arith, nat_tests),
    )
