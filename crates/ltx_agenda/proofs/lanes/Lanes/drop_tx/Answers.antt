use Rattle.std.proofs.Common.{◌≡◌, ap, ◌∙◌, sym, arith, subst, true, length, drop, List, ℕ}
use Rattle.ltx_model.specs.Listings.{is_member, without}
use Rattle.ltx_agenda.specs.Runs.{rows_of, members_of}
use Rattle.ltx_agenda.specs.Seats.{seat_of}
use Rattle.ltx_agenda.specs.Placed.{Standing}
use Rattle.ltx_agenda.specs.Marks.{ends_of}
use Rattle.ltx_agenda.specs.Lanes.{lanes_without}
use Rattle.ltx_agenda.proofs.Joined.{length-without_most}
use Rattle.ltx_agenda.proofs.Restarts.{before_at, beyond_at, in_lane_done, started_done, written_back}
use Rattle.ltx_agenda.proofs.Listings.{length-rows, is_seated, placed_taken, length-without}
use Rattle.ltx_agenda.proofs.lanes.Lanes.drop_tx.Goals as goal

pub seat_of_member-seat-requires : goal.seat_of_member-seat-requires
seat_of_member-seat-requires c = is_seated _ _ c.self.invariant.placed c.number.result c.args.tx c.number.ensures.range.0 c.number.ensures.value (subst (λ (v : Standing). is_member v.list c.args.tx ≡ true) (sym c.self.view_is) c.requires.member)

pub restart-requires-clause-bounded : goal.restart-requires-clause-bounded
restart-requires-clause-bounded c =
    let inv = c.self.invariant in
    let list = ap (λ (xs : List ℕ). length xs) (ap (λ rs. members_of (rows_of rs)) c.deref.ensures.value ∙ c.close_up.ensures.list) in
    let most = length-without_most (members_of (rows_of c.self.inside.runs.items)) c.number-2.result in
    let counted = inv.counted in
    let bounded = inv.bounded in
    omega arith

pub restart-requires-clause-before : goal.restart-requires-clause-before
restart-requires-clause-before c =
    let as_many = c.self.invariant.as_many in
    let there = c.close_up.ensures.there in
    before_at c.self.inside.marks.items c.deref_mut.result.now (rows_of c.self.inside.runs.items) (rows_of c.deref.result.now) c.seat_of_member-seat.result.run _ c.deref_mut.ensures.value (ap rows_of c.deref.ensures.value ∙ c.close_up.ensures.row) (omega arith) c.self.invariant.started

pub restart-requires-clause-beyond : goal.restart-requires-clause-beyond
restart-requires-clause-beyond c =
    beyond_at c.self.inside.marks.items c.deref_mut.result.now (rows_of c.self.inside.runs.items) (rows_of c.deref.result.now) c.seat_of_member-seat.result.run _ c.deref_mut.ensures.value (ap rows_of c.deref.ensures.value ∙ c.close_up.ensures.row)
    (c.self.invariant.as_many ∙ sym (length-rows c.self.inside.runs.items)) c.self.invariant.started

pub invariant_of-self : goal.invariant_of-self
invariant_of-self c =
    let inv = c.self.invariant in
    let first = c.number.ensures.value in
    let second = c.number-2.ensures.value in
    let third = c.number-3.ensures.value in
    let same : c.number-2.result ≡ c.number.result = second ∙ sym first in
    let shorter = length-without (rows_of c.self.inside.runs.items) (seat_of c.self.inside.seats) inv.placed c.number.result c.seat_of_member-seat.result c.number.ensures.range.0 c.seat_of_member-seat.ensures in
    let list = ap (λ (xs : List ℕ). length xs) (c.close_up.ensures.list ∙ ap (without (members_of (rows_of c.self.inside.runs.items))) same) in
    let spare = c.take.ensures.spare in
    let kept = c.close_up.ensures.spare in
    let runs = c.close_up.ensures.runs in
    let capacity = c.close_up.ensures.capacity in
    let last : c.number-3.result ≡ c.number-2.result = third ∙ sym second in
    let marks_len = c.self.inside.marks.ok.0 in
    let marks_same = ap (λ ms. length ms) c.deref_mut.ensures.value in
    let marks_kept = c.restart.ensures.len in
    let written = written_back c.restart.new.marks (drop (length c.restart.new.marks) c.self.inside.marks.items) c.self.inside.marks.len (omega arith) in
    let written_len = ap (λ ms. length ms) written in
    record {
      placed = placed_taken (rows_of c.close_up.new.runs.items) c.number-2.result (seat_of c.close_up.new.seats) (seat_of c.take.new.self) c.close_up.ensures.placed
          (ap (seat_of c.take.new.self) (sym last) ∙ c.take.ensures.here) (λ m differ. c.take.ensures.others m (λ e. differ (e ∙ last)));
      runs_room = let before = inv.runs_room in omega arith;
      seats_room = let before = inv.seats_room in omega arith;
      counted = let before = inv.counted in omega arith;
      bounded = let before = inv.bounded in omega arith;
      marks_room = let before = inv.marks_room in omega arith;
      as_many = let before = inv.as_many in omega arith;
      in_lane = in_lane_done c.self.inside.marks.items c.deref_mut.result.now c.restart.new.marks _ c.deref_mut.ensures.value written c.restart.ensures.ends c.restart.ensures.lanes c.restart.ensures.len inv.in_lane;
      started = started_done c.restart.new.marks _ (rows_of c.deref.result.now) (rows_of c.close_up.new.runs.items) written (ap rows_of (sym c.deref.ensures.value)) c.restart.ensures.started;
    }

pub returns-clause-ends : goal.returns-clause-ends
returns-clause-ends c =
    let marks_len = c.self.inside.marks.ok.0 in
    let marks_same = ap (λ ms. length ms) c.deref_mut.ensures.value in
    let marks_kept = c.restart.ensures.len in
    let written = written_back c.restart.new.marks (drop (length c.restart.new.marks) c.self.inside.marks.items) c.self.inside.marks.len (omega arith) in
    ap ends_of written ∙ c.restart.ensures.ends ∙ ap ends_of c.deref_mut.ensures.value ∙ ap (λ (v : Standing). v.ends) c.self.view_is

pub returns-clause-rows : goal.returns-clause-rows
returns-clause-rows c =
    c.close_up.ensures.rows ∙ ap (lanes_without (rows_of c.self.inside.runs.items)) c.number-2.ensures.value ∙ ap (λ (v : Standing). lanes_without (rows_of v.runs) c.args.tx) c.self.view_is
