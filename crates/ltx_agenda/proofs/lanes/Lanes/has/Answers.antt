use Rattle.std.proofs.Common.{ap, ◌∙◌, arith, ◌<◌, ◌≡◌, sym, refl, length, false, subst}
use Rattle.std.specs.Option.{is_some}
use Rattle.ltx_model.specs.Listings.{is_member}
use Rattle.ltx_agenda.specs.Seats.{seat_of}
use Rattle.ltx_agenda.specs.Placed.{Standing, HasRoomBefore}
use Rattle.ltx_agenda.proofs.Placing.{is_some_member}
use Rattle.ltx_agenda.specs.Runs.{rows_of, members_of}
use Rattle.ltx_agenda.proofs.Restarts.{length-ends}
use Rattle.ltx_agenda.proofs.Listings.{length-rows, stands_nowhere}
use Rattle.ltx_agenda.proofs.lanes.Lanes.has.Goals as goal

pub returns-clause-value : goal.returns-clause-value
returns-clause-value c =
    let range = c.number.ensures.range.0 in
    let same = c.number.ensures.value in
    let some : 0 < c.args.tx = omega arith in
    c.is_some.ensures ∙ ap is_some (c.get.ensures ∙ ap (seat_of c.self.inside.seats) same)
    ∙ is_some_member _ _ c.self.invariant.placed c.args.tx some ∙ ap (λ (v : Standing). is_member v.list c.args.tx) c.self.view_is

pub returns-clause-nowhere : goal.returns-clause-nowhere
returns-clause-nowhere c = λ none.
    let range = c.number.ensures.range.0 in
    let same = c.number.ensures.value in
    let some : 0 < c.args.tx = omega arith in
    let gone : is_some (seat_of c.self.inside.seats c.args.tx) ≡ false = sym (c.is_some.ensures ∙ ap is_some (c.get.ensures ∙ ap (seat_of c.self.inside.seats) same)) ∙ none in
    subst (λ (v : Standing). HasRoomBefore v.runs c.args.tx) c.self.view_is (stands_nowhere c.self.inside.runs.items (seat_of c.self.inside.seats) c.self.invariant.placed c.args.tx some gone)

pub returns-clause-as_many : goal.returns-clause-as_many
returns-clause-as_many c =
    subst (λ (v : Standing). length v.ends ≡ length (rows_of v.runs)) c.self.view_is (length-ends c.self.inside.marks.items ∙ c.self.invariant.as_many ∙ sym (length-rows c.self.inside.runs.items))

pub returns-clause-listed : goal.returns-clause-listed
returns-clause-listed c = subst (λ (v : Standing). v.list ≡ members_of (rows_of v.runs)) c.self.view_is refl
