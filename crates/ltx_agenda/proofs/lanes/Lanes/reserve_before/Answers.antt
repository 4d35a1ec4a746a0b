use Rattle.std.proofs.Common.{ℕ, ◌<◌, ◌≤◌, length-set, set, ◌≡◌, ap, ◌∙◌, sym, arith, subst, true, length}
use Rattle.ltx_model.specs.Listings.{is_member}
use Rattle.ltx_agenda.specs.Runs.{Held, rows_of, members_of}
use Rattle.ltx_agenda.specs.Marks.{IsStarted}
use Rattle.ltx_agenda.specs.Seats.{seat_of}
use Rattle.ltx_agenda.specs.Placed.{Standing, IsPlaced, HasRoomBefore}
use Rattle.ltx_agenda.proofs.Listings.{is_seated, run_within, run_read, rows-set_room, room_kept, room_made}
use Rattle.ltx_agenda.proofs.lanes.Lanes.reserve_before.Goals as goal

pub seat_of_member-seat-requires : goal.seat_of_member-seat-requires
seat_of_member-seat-requires c = is_seated _ _ c.self.invariant.placed c.number.result c.args.target c.number.ensures.range.0 c.number.ensures.value (subst (λ (v : Standing). is_member v.list c.args.target ≡ true) (sym c.self.view_is) c.requires.member)

pub index_mut-run-requires : goal.index_mut-run-requires
index_mut-run-requires c =
    let within = (run_within c.self.inside.runs.items (seat_of c.self.inside.seats) c.self.invariant.placed c.number.result c.seat_of_member-seat.result c.number.ensures.range.0 c.seat_of_member-seat.ensures).0 in
    let len = c.self.inside.runs.ok.0 in
    omega arith

pub invariant_of-self-2 : goal.invariant_of-self-2
invariant_of-self-2 c =
    let inv = c.self.invariant in
    let l = c.seat_of_member-seat.result.run in
    let within = (run_within c.self.inside.runs.items (seat_of c.self.inside.seats) inv.placed c.number.result c.seat_of_member-seat.result c.number.ensures.range.0 c.seat_of_member-seat.ensures).0 in
    let run = run_read c.self.inside.runs.items l c.index_mut-run.result.now within c.index_mut-run.ensures.value in
    let same = rows-set_room c.self.inside.runs.items l c.reserve_one.new.self (c.reserve_one.ensures.items ∙ ap (λ (r : Held). r.items) run) in
    let longer = length-set c.self.inside.runs.items l c.reserve_one.new.self in
    record {
      placed = subst (λ rows. IsPlaced rows (seat_of c.self.inside.seats)) (sym same) inv.placed;
      runs_room = let room = inv.runs_room in omega arith;
      seats_room = inv.seats_room;
      counted = inv.counted ∙ ap (λ rows. length (members_of rows)) (sym same);
      bounded = inv.bounded;
      marks_room = inv.marks_room;
      as_many = inv.as_many ∙ sym longer;
      in_lane = inv.in_lane;
      started = subst (λ rows. (b : ℕ) → b < length c.self.inside.marks.items → IsStarted c.self.inside.marks.items rows b) (sym same) inv.started;
    }

pub returns-clause-rows : goal.returns-clause-rows
returns-clause-rows c =
    let inv = c.self.invariant in
    let l = c.seat_of_member-seat.result.run in
    let within = (run_within c.self.inside.runs.items (seat_of c.self.inside.seats) inv.placed c.number.result c.seat_of_member-seat.result c.number.ensures.range.0 c.seat_of_member-seat.ensures).0 in
    let run = run_read c.self.inside.runs.items l c.index_mut-run.result.now within c.index_mut-run.ensures.value in
    rows-set_room c.self.inside.runs.items l c.reserve_one.new.self (c.reserve_one.ensures.items ∙ ap (λ (r : Held). r.items) run) ∙ ap (λ (v : Standing). rows_of v.runs) c.self.view_is

pub returns-clause-list : goal.returns-clause-list
returns-clause-list c =
    let inv = c.self.invariant in
    let l = c.seat_of_member-seat.result.run in
    let within = (run_within c.self.inside.runs.items (seat_of c.self.inside.seats) inv.placed c.number.result c.seat_of_member-seat.result c.number.ensures.range.0 c.seat_of_member-seat.ensures).0 in
    let run = run_read c.self.inside.runs.items l c.index_mut-run.result.now within c.index_mut-run.ensures.value in
    let same = rows-set_room c.self.inside.runs.items l c.reserve_one.new.self (c.reserve_one.ensures.items ∙ ap (λ (r : Held). r.items) run) in
    ap members_of same ∙ ap (λ (v : Standing). v.list) c.self.view_is

pub returns-clause-made : goal.returns-clause-made
returns-clause-made c =
    let inv = c.self.invariant in
    let l = c.seat_of_member-seat.result.run in
    let within = (run_within c.self.inside.runs.items (seat_of c.self.inside.seats) inv.placed c.number.result c.seat_of_member-seat.result c.number.ensures.range.0 c.seat_of_member-seat.ensures).0 in
    let run = run_read c.self.inside.runs.items l c.index_mut-run.result.now within c.index_mut-run.ensures.value in
    subst (λ m. HasRoomBefore (set c.self.inside.runs.items l c.reserve_one.new.self) m) c.number.ensures.value
    (room_made c.self.inside.runs.items (seat_of c.self.inside.seats) inv.placed c.number.result c.seat_of_member-seat.result c.number.ensures.range.0 c.seat_of_member-seat.ensures c.reserve_one.new.self
    (c.reserve_one.ensures.items ∙ ap (λ (r : Held). r.items) run) c.in_ok-reserve_one.ensures.made)

pub returns-clause-kept : goal.returns-clause-kept
returns-clause-kept c =
    let inv = c.self.invariant in
    let runs = c.self.inside.runs.items in
    let l = c.seat_of_member-seat.result.run in
    let within = (run_within runs (seat_of c.self.inside.seats) inv.placed c.number.result c.seat_of_member-seat.result c.number.ensures.range.0 c.seat_of_member-seat.ensures).0 in
    let run = run_read runs l c.index_mut-run.result.now within c.index_mut-run.ensures.value in
    λ m room. room_kept runs l c.reserve_one.new.self within (c.reserve_one.ensures.items ∙ ap (λ (r : Held). r.items) run)
    (subst (λ (r : Held). r.room ≤ c.reserve_one.new.self.room) run c.reserve_one.ensures.kept) m (subst (λ (v : Standing). HasRoomBefore v.runs m) (sym c.self.view_is) room)
