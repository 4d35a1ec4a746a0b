use Rattle.std.proofs.Common.{◌≡◌, ap, ◌∙◌, sym, arith, subst, true, length, drop, refl, ◌≢◌, List, ℕ}
use Rattle.ltx_model.specs.Listings.{is_member, without, insert_before}
use Rattle.ltx_agenda.specs.Runs.{rows_of, members_of, at}
use Rattle.ltx_agenda.specs.Marks.{ends_of}
use Rattle.ltx_agenda.specs.Lanes.{lanes_without, lanes_insert}
use Rattle.ltx_agenda.proofs.Joined.{length-without_most, length-insert_before_most}
use Rattle.ltx_agenda.proofs.Restarts.{before_at, beyond_at, in_lane_done, started_done, written_back}
use Rattle.ltx_agenda.specs.Seats.{seat_of}
use Rattle.ltx_agenda.specs.Placed.{Standing, HasRoomBefore, apart}
use Rattle.ltx_agenda.proofs.Listings.{length-rows, is_seated, length-without, length-insert_before, member_without, other_seated, other_there}
use Rattle.ltx_agenda.proofs.lanes.Lanes.move_before.Goals as goal

pub seat_of_member-from-requires : goal.seat_of_member-from-requires
seat_of_member-from-requires c = is_seated _ _ c.self.invariant.placed c.number.result c.args.tx c.number.ensures.range.0 c.number.ensures.value (subst (λ (v : Standing). is_member v.list c.args.tx ≡ true) (sym c.self.view_is) c.requires.member)

-- the target is still a member
pub seat_of_member-to-requires : goal.seat_of_member-to-requires
seat_of_member-to-requires c =
    let tx = c.number-2.ensures.value in
    let target = c.number-3.ensures.value in
    let differ : c.number-3.result ≢ c.number-2.result = λ e. c.requires.differ (sym tx ∙ sym e ∙ target) in
    let was : is_member (members_of (rows_of c.self.inside.runs.items)) c.number-3.result ≡ true =
    subst (λ (v : Standing). is_member v.list c.number-3.result ≡ true) (sym c.self.view_is) (subst (λ m. is_member c.args.self.now.list m ≡ true) (sym target) c.requires.target) in
    let now : is_member (members_of (rows_of c.close_up.new.runs.items)) c.number-3.result ≡ true =
    ap (λ ms. is_member ms c.number-3.result) c.close_up.ensures.list ∙ member_without (members_of (rows_of c.self.inside.runs.items)) c.number-2.result c.number-3.result differ ∙ was in
    other_seated (rows_of c.close_up.new.runs.items) (seat_of c.close_up.new.seats) c.number-2.result c.close_up.ensures.placed c.number-3.result c.number-3.ensures.range.0 differ now

pub open_up-requires-clause-here : goal.open_up-requires-clause-here
open_up-requires-clause-here c =
    let tx = c.number-2.ensures.value in
    let target = c.number-3.ensures.value in
    let differ : c.number-3.result ≢ c.number-2.result = λ e. c.requires.differ (sym tx ∙ sym e ∙ target) in
    let there = other_there (rows_of c.close_up.new.runs.items) (seat_of c.close_up.new.seats) c.number-2.result c.close_up.ensures.placed c.number-3.result c.seat_of_member-to.result differ c.seat_of_member-to.ensures in
    let some = c.number-3.ensures.range.0 in
    omega arith

pub open_up-requires-clause-room : goal.open_up-requires-clause-room
open_up-requires-clause-room c =
    let tx = c.number-2.ensures.value in
    let target = c.number-3.ensures.value in
    let differ : c.number-3.result ≢ c.number-2.result = λ e. c.requires.differ (sym tx ∙ sym e ∙ target) in
    let there = other_there (rows_of c.close_up.new.runs.items) (seat_of c.close_up.new.seats) c.number-2.result c.close_up.ensures.placed c.number-3.result c.seat_of_member-to.result differ c.seat_of_member-to.ensures in
    let was : HasRoomBefore c.self.inside.runs.items c.number-3.result = subst (HasRoomBefore c.self.inside.runs.items) (sym target) (subst (λ (v : Standing). HasRoomBefore v.runs c.args.target) (sym c.self.view_is) c.requires.room) in
    c.close_up.ensures.rooms c.number-3.result c.number-3.ensures.range.0 was c.seat_of_member-to.result.run c.seat_of_member-to.result.at there

pub restart-requires-clause-bounded : goal.restart-requires-clause-bounded
restart-requires-clause-bounded c =
    let inv = c.self.invariant in
    let list = ap (λ (xs : List ℕ). length xs) (ap (λ rs. members_of (rows_of rs)) c.deref.ensures.value ∙ c.close_up.ensures.list) in
    let most = length-without_most (members_of (rows_of c.self.inside.runs.items)) c.number-2.result in
    let counted = inv.counted in
    let bounded = inv.bounded in
    omega arith

pub restart-requires-clause-before : goal.restart-requires-clause-before
restart-requires-clause-before c =
    let as_many = c.self.invariant.as_many in
    let there = c.close_up.ensures.there in
    before_at c.self.inside.marks.items c.deref_mut.result.now (rows_of c.self.inside.runs.items) (rows_of c.deref.result.now) c.seat_of_member-from.result.run _ c.deref_mut.ensures.value (ap rows_of c.deref.ensures.value ∙ c.close_up.ensures.row) (omega arith) c.self.invariant.started

pub restart-requires-clause-beyond : goal.restart-requires-clause-beyond
restart-requires-clause-beyond c =
    beyond_at c.self.inside.marks.items c.deref_mut.result.now (rows_of c.self.inside.runs.items) (rows_of c.deref.result.now) c.seat_of_member-from.result.run _ c.deref_mut.ensures.value (ap rows_of c.deref.ensures.value ∙ c.close_up.ensures.row)
    (c.self.invariant.as_many ∙ sym (length-rows c.self.inside.runs.items)) c.self.invariant.started

pub restart-requires-2-clause-bounded : goal.restart-requires-2-clause-bounded
restart-requires-2-clause-bounded c =
    let inv = c.self.invariant in
    let tx = c.number-2.ensures.value in
    let first = c.number.ensures.value in
    let same : c.number-2.result ≡ c.number.result = tx ∙ sym first in
    let shorter = length-without (rows_of c.self.inside.runs.items) (seat_of c.self.inside.seats) inv.placed c.number.result c.seat_of_member-from.result c.number.ensures.range.0 c.seat_of_member-from.ensures in
    let left = ap (λ (xs : List ℕ). length xs) (c.close_up.ensures.list ∙ ap (without (members_of (rows_of c.self.inside.runs.items))) same) in
    let came = ap (λ (xs : List ℕ). length xs) (ap (λ rs. members_of (rows_of rs)) c.deref-2.ensures.value ∙ c.open_up.ensures.list) in
    let most = length-insert_before_most (members_of (rows_of c.close_up.new.runs.items)) c.args.tx (at (rows_of c.close_up.new.runs.items) c.seat_of_member-to.result.run c.seat_of_member-to.result.at) in
    let counted = inv.counted in
    let bounded = inv.bounded in
    omega arith

pub restart-requires-2-clause-before : goal.restart-requires-2-clause-before
restart-requires-2-clause-before c =
    let marks_len = c.self.inside.marks.ok.0 in
    let marks_same = ap (λ ms. length ms) c.deref_mut.ensures.value in
    let marks_kept = c.restart.ensures.len in
    let written = written_back c.restart.new.marks (drop (length c.restart.new.marks) c.self.inside.marks.items) c.self.inside.marks.len (omega arith) in
    let as_many = c.self.invariant.as_many in
    let runs = c.close_up.ensures.runs in
    let there = c.open_up.ensures.there in
    before_at c.restart.new.marks c.deref_mut-2.result.now (rows_of c.close_up.new.runs.items) (rows_of c.deref-2.result.now) c.seat_of_member-to.result.run _ (c.deref_mut-2.ensures.value ∙ written) (ap rows_of c.deref-2.ensures.value ∙ c.open_up.ensures.row)
    (omega arith) (started_done c.restart.new.marks c.restart.new.marks (rows_of c.deref.result.now) (rows_of c.close_up.new.runs.items) refl (ap rows_of (sym c.deref.ensures.value)) c.restart.ensures.started)

pub restart-requires-2-clause-beyond : goal.restart-requires-2-clause-beyond
restart-requires-2-clause-beyond c =
    let marks_len = c.self.inside.marks.ok.0 in
    let marks_same = ap (λ ms. length ms) c.deref_mut.ensures.value in
    let marks_kept = c.restart.ensures.len in
    let written = written_back c.restart.new.marks (drop (length c.restart.new.marks) c.self.inside.marks.items) c.self.inside.marks.len (omega arith) in
    let as_many = c.self.invariant.as_many in
    let runs = c.close_up.ensures.runs in
    let rows = length-rows c.close_up.new.runs.items in
    beyond_at c.restart.new.marks c.deref_mut-2.result.now (rows_of c.close_up.new.runs.items) (rows_of c.deref-2.result.now) c.seat_of_member-to.result.run _ (c.deref_mut-2.ensures.value ∙ written) (ap rows_of c.deref-2.ensures.value ∙ c.open_up.ensures.row)
    (omega arith) (started_done c.restart.new.marks c.restart.new.marks (rows_of c.deref.result.now) (rows_of c.close_up.new.runs.items) refl (ap rows_of (sym c.deref.ensures.value)) c.restart.ensures.started)

pub returns-clause-ends : goal.returns-clause-ends
returns-clause-ends c =
    let marks_len = c.self.inside.marks.ok.0 in
    let marks_same = ap (λ ms. length ms) c.deref_mut.ensures.value in
    let marks_kept = c.restart.ensures.len in
    let written = written_back c.restart.new.marks (drop (length c.restart.new.marks) c.self.inside.marks.items) c.self.inside.marks.len (omega arith) in
    let marks_then = c.deref_mut-2.ensures.value ∙ written in
    let len_then = ap (λ ms. length ms) marks_then in
    let kept_again = c.restart-2.ensures.len in
    let again = written_back c.restart-2.new.marks _ c.self.inside.marks.len (omega arith) in
    ap ends_of again ∙ c.restart-2.ensures.ends ∙ ap ends_of marks_then ∙ c.restart.ensures.ends ∙ ap ends_of c.deref_mut.ensures.value ∙ ap (λ (v : Standing). v.ends) c.self.view_is

pub returns-clause-rows : goal.returns-clause-rows
returns-clause-rows c =
    let tx = c.number-2.ensures.value in
    let target = c.number-3.ensures.value in
    let differ : c.number-3.result ≢ c.number-2.result = λ e. c.requires.differ (sym tx ∙ sym e ∙ target) in
    let there = other_there (rows_of c.close_up.new.runs.items) (seat_of c.close_up.new.seats) c.number-2.result c.close_up.ensures.placed c.number-3.result c.seat_of_member-to.result differ c.seat_of_member-to.ensures in
    c.open_up.ensures.rows ∙ ap (λ m. lanes_insert c.args.tx m (rows_of c.close_up.new.runs.items)) (there ∙ target)
    ∙ ap (lanes_insert c.args.tx c.args.target) (c.close_up.ensures.rows ∙ ap (lanes_without (rows_of c.self.inside.runs.items)) tx ∙ ap (λ (v : Standing). lanes_without (rows_of v.runs) c.args.tx) c.self.view_is)

pub invariant_of-self : goal.invariant_of-self
invariant_of-self c =
    let tx = c.number-2.ensures.value in
    let target = c.number-3.ensures.value in
    let differ : c.number-3.result ≢ c.number-2.result = λ e. c.requires.differ (sym tx ∙ sym e ∙ target) in
    let there = other_there (rows_of c.close_up.new.runs.items) (seat_of c.close_up.new.seats) c.number-2.result c.close_up.ensures.placed c.number-3.result c.seat_of_member-to.result differ c.seat_of_member-to.ensures in
    let inv = c.self.invariant in
    let some = c.number-3.ensures.range.0 in
    let first = c.number.ensures.value in
    let same : c.number-2.result ≡ c.number.result = tx ∙ sym first in
    let shorter = length-without (rows_of c.self.inside.runs.items) (seat_of c.self.inside.seats) inv.placed c.number.result c.seat_of_member-from.result c.number.ensures.range.0 c.seat_of_member-from.ensures in
    let left = ap (λ (xs : List ℕ). length xs) (c.close_up.ensures.list ∙ ap (without (members_of (rows_of c.self.inside.runs.items))) same) in
    let longer = length-insert_before (rows_of c.close_up.new.runs.items) (apart c.number-2.result (seat_of c.close_up.new.seats)) c.close_up.ensures.placed c.args.tx c.seat_of_member-to.result.run c.seat_of_member-to.result.at (omega arith) in
    let came = ap (λ (xs : List ℕ). length xs) c.open_up.ensures.list in
    let spare = c.close_up.ensures.spare in
    let spare_too = c.open_up.ensures.spare in
    let runs = c.close_up.ensures.runs in
    let runs_too = c.open_up.ensures.runs in
    let capacity = c.close_up.ensures.capacity in
    let capacity_too = c.open_up.ensures.capacity in
    let marks_len = c.self.inside.marks.ok.0 in
    let marks_same = ap (λ ms. length ms) c.deref_mut.ensures.value in
    let marks_kept = c.restart.ensures.len in
    let written = written_back c.restart.new.marks (drop (length c.restart.new.marks) c.self.inside.marks.items) c.self.inside.marks.len (omega arith) in
    let marks_then = c.deref_mut-2.ensures.value ∙ written in
    let len_then = ap (λ ms. length ms) marks_then in
    let kept_again = c.restart-2.ensures.len in
    let again = written_back c.restart-2.new.marks _ c.self.inside.marks.len (omega arith) in
    let again_len = ap (λ ms. length ms) again in
    let in_lane_then = in_lane_done c.self.inside.marks.items c.deref_mut.result.now c.restart.new.marks c.restart.new.marks c.deref_mut.ensures.value refl c.restart.ensures.ends c.restart.ensures.lanes c.restart.ensures.len inv.in_lane in
    record {
      placed = c.open_up.ensures.placed;
      runs_room = let before = inv.runs_room in omega arith;
      seats_room = let before = inv.seats_room in omega arith;
      counted = let before = inv.counted in omega arith;
      bounded = inv.bounded;
      marks_room = let before = inv.marks_room in omega arith;
      as_many = let before = inv.as_many in omega arith;
      in_lane = in_lane_done c.restart.new.marks c.deref_mut-2.result.now c.restart-2.new.marks _ marks_then again c.restart-2.ensures.ends c.restart-2.ensures.lanes c.restart-2.ensures.len in_lane_then;
      started = started_done c.restart-2.new.marks _ (rows_of c.deref-2.result.now) (rows_of c.open_up.new.runs.items) again (ap rows_of (sym c.deref-2.ensures.value)) c.restart-2.ensures.started;
    }

pub returns-clause-list : goal.returns-clause-list
returns-clause-list c =
    let tx = c.number-2.ensures.value in
    let target = c.number-3.ensures.value in
    let differ : c.number-3.result ≢ c.number-2.result = λ e. c.requires.differ (sym tx ∙ sym e ∙ target) in
    let there = other_there (rows_of c.close_up.new.runs.items) (seat_of c.close_up.new.seats) c.number-2.result c.close_up.ensures.placed c.number-3.result c.seat_of_member-to.result differ c.seat_of_member-to.ensures in
    let now : members_of (rows_of c.close_up.new.runs.items) ≡ without c.args.self.now.list c.args.tx =
    c.close_up.ensures.list ∙ ap (without (members_of (rows_of c.self.inside.runs.items))) tx ∙ ap (λ (v : Standing). without v.list c.args.tx) c.self.view_is in
    c.open_up.ensures.list ∙ ap (λ m. insert_before c.args.tx m (members_of (rows_of c.close_up.new.runs.items))) (there ∙ target) ∙ ap (insert_before c.args.tx c.args.target) now
