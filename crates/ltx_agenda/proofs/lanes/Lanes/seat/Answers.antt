use Rattle.std.proofs.Common.{◌≡◌, ◌<◌, IfSome, IfNone, arith, ap, ◌∙◌, subst, false}
use Rattle.ltx_model.specs.Listings.{is_member}
use Rattle.ltx_agenda.specs.Marks.{ends_of}
use Rattle.ltx_agenda.specs.Seats.{seat_of}
use Rattle.ltx_agenda.specs.Placed.{Standing, SitsAt}
use Rattle.ltx_agenda.proofs.Listings.{sits_if_some, none_if_none}
use Rattle.ltx_agenda.proofs.lanes.Lanes.seat.Goals as goal

pub returns-clause-some : goal.returns-clause-some
returns-clause-some c =
    let range = c.number.ensures.range.0 in
    let same = c.number.ensures.value in
    let some : 0 < c.args.tx = omega arith in
    subst (λ (v : Standing). IfSome c.get.result (SitsAt v c.args.tx)) c.self.view_is
    (sits_if_some c.self.inside.runs.items c.self.inside.room (ends_of c.self.inside.marks.items) (seat_of c.self.inside.seats) c.self.invariant.placed c.args.tx c.get.result some (c.get.ensures ∙ ap (seat_of c.self.inside.seats) same))

pub returns-clause-none : goal.returns-clause-none
returns-clause-none c =
    let range = c.number.ensures.range.0 in
    let same = c.number.ensures.value in
    let some : 0 < c.args.tx = omega arith in
    subst (λ (v : Standing). IfNone c.get.result (is_member v.list c.args.tx ≡ false)) c.self.view_is
    (none_if_none c.self.inside.runs.items (seat_of c.self.inside.seats) c.self.invariant.placed c.args.tx c.get.result some (c.get.ensures ∙ ap (seat_of c.self.inside.seats) same))
