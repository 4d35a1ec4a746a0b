use Rattle.std.proofs.Common.{◌≡◌, ◌+◌, ◌<◌, IfNone, None, Some, length, false, ap, ◌∙◌, sym, subst, arith}
use Rattle.std.proofs.lemmas.List.{get_or_read}
use Rattle.ltx_model.specs.Listings.{is_member}
use Rattle.ltx_agenda.specs.declared.mark.Mark.{Mark}
use Rattle.ltx_agenda.specs.Runs.{members_of, rows_of}
use Rattle.ltx_agenda.specs.Seats.{seat_of}
use Rattle.ltx_agenda.specs.Marks.{mark_at}
use Rattle.ltx_agenda.specs.Placed.{Standing, LiesAt}
use Rattle.ltx_agenda.proofs.Listings.{none_if_none, run_within}
use Rattle.ltx_agenda.proofs.Restarts.{no_mark, length-ends}
use Rattle.ltx_agenda.proofs.Spots.{lies_at}
use Rattle.ltx_agenda.proofs.lanes.Lanes.spot.Goals as goal

pub returns-in_err-seat-clause-none : goal.returns-in_err-seat-clause-none
returns-in_err-seat-clause-none c =
    let range = c.number.ensures.range.0 in
    let same = c.number.ensures.value in
    let some : 0 < c.args.tx = omega arith in
    let none : c.get.result ≡ None = c.in_err-seat.was in
    subst (λ o. IfNone o (is_member c.args.self.now.list c.args.tx ≡ false)) (sym c.from_residual.ensures)
    (subst (λ (v : Standing). is_member v.list c.args.tx ≡ false) c.self.view_is
    (none_if_none c.self.inside.runs.items (seat_of c.self.inside.seats) c.self.invariant.placed c.args.tx None some (sym none ∙ c.get.ensures ∙ ap (seat_of c.self.inside.seats) same)))

pub index-mark-requires : goal.index-mark-requires
index-mark-requires c =
    let is : seat_of c.self.inside.seats c.number.result ≡ Some c.in_ok-seat.seat = sym c.get.ensures ∙ c.in_ok-seat.was in
    let within = (run_within c.self.inside.runs.items (seat_of c.self.inside.seats) c.self.invariant.placed c.number.result c.in_ok-seat.seat c.number.ensures.range.0 is).0 in
    let many = c.self.invariant.as_many in
    let len = c.self.inside.marks.ok.0 in
    omega arith

lying : (c : goal.After-struct_known-2-1) → LiesAt c.args.self.now c.args.tx (record { lane = c.index-mark.result.now.lane; place = c.index-mark.result.now.start + c.in_ok-seat.seat.at })
lying c =
    let range = c.number.ensures.range.0 in
    let same = c.number.ensures.value in
    let some : 0 < c.args.tx = omega arith in
    let is : seat_of c.self.inside.seats c.args.tx ≡ Some c.in_ok-seat.seat = ap (seat_of c.self.inside.seats) (sym same) ∙ sym c.get.ensures ∙ c.in_ok-seat.was in
    let within = (run_within c.self.inside.runs.items (seat_of c.self.inside.seats) c.self.invariant.placed c.args.tx c.in_ok-seat.seat some is).0 in
    let many = c.self.invariant.as_many in
    let in_marks : c.in_ok-seat.seat.run < length c.self.inside.marks.items = omega arith in
    let mark : c.index-mark.result.now ≡ mark_at c.self.inside.marks.items c.in_ok-seat.seat.run = get_or_read c.self.inside.marks.items c.in_ok-seat.seat.run c.index-mark.result.now in_marks c.index-mark.ensures no_mark in
    subst (λ (v : Standing). LiesAt v c.args.tx (record { lane = c.index-mark.result.now.lane; place = c.index-mark.result.now.start + c.in_ok-seat.seat.at })) c.self.view_is
    (lies_at c.self.inside.runs.items c.self.inside.room c.self.inside.marks.items (seat_of c.self.inside.seats) c.self.invariant.placed c.args.tx c.in_ok-seat.seat c.index-mark.result.now some is many
    (ap (λ (m : Mark). m.lane) mark ∙ c.self.invariant.in_lane c.in_ok-seat.seat.run in_marks) (ap (λ (m : Mark). m.start) mark ∙ c.self.invariant.started c.in_ok-seat.seat.run in_marks))

pub overflow_add-result : goal.overflow_add-result
overflow_add-result c =
    let range = c.number.ensures.range.0 in
    let same = c.number.ensures.value in
    let some : 0 < c.args.tx = omega arith in
    let is : seat_of c.self.inside.seats c.args.tx ≡ Some c.in_ok-seat.seat = ap (seat_of c.self.inside.seats) (sym same) ∙ sym c.get.ensures ∙ c.in_ok-seat.was in
    let within = (run_within c.self.inside.runs.items (seat_of c.self.inside.seats) c.self.invariant.placed c.args.tx c.in_ok-seat.seat some is).0 in
    let many = c.self.invariant.as_many in
    let in_marks : c.in_ok-seat.seat.run < length c.self.inside.marks.items = omega arith in
    let mark : c.index-mark.result.now ≡ mark_at c.self.inside.marks.items c.in_ok-seat.seat.run = get_or_read c.self.inside.marks.items c.in_ok-seat.seat.run c.index-mark.result.now in_marks c.index-mark.ensures no_mark in
    let there = lies_at c.self.inside.runs.items c.self.inside.room c.self.inside.marks.items (seat_of c.self.inside.seats) c.self.invariant.placed c.args.tx c.in_ok-seat.seat c.index-mark.result.now some is many
    (ap (λ (m : Mark). m.lane) mark ∙ c.self.invariant.in_lane c.in_ok-seat.seat.run in_marks) (ap (λ (m : Mark). m.start) mark ∙ c.self.invariant.started c.in_ok-seat.seat.run in_marks) in
    let bound : c.index-mark.result.now.start + c.in_ok-seat.seat.at < length (members_of (rows_of c.self.inside.runs.items)) = there.place_bound in
    let counted = c.self.invariant.counted in
    let bounded = c.self.invariant.bounded in
    omega arith

pub returns-clause-some : goal.returns-clause-some
returns-clause-some c = lying c

pub returns-in_err-seat-clause-many : goal.returns-in_err-seat-clause-many
returns-in_err-seat-clause-many c =
    let ends = length-ends c.self.inside.marks.items in
    let small = c.self.inside.marks.small in
    let len = c.self.inside.marks.ok in
    subst (λ (v : Standing). length v.ends < 9223372036854775808) c.self.view_is (omega arith)

pub returns-clause-many : goal.returns-clause-many
returns-clause-many c =
    let ends = length-ends c.self.inside.marks.items in
    let small = c.self.inside.marks.small in
    let len = c.self.inside.marks.ok in
    subst (λ (v : Standing). length v.ends < 9223372036854775808) c.self.view_is (omega arith)
