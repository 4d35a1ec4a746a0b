use Rattle.std.proofs.Common.{sym, arith, subst, ◌<◌, ◌≤◌, length, set}
use Rattle.ltx_agenda.specs.Runs.{Held, rows_of}
use Rattle.ltx_agenda.specs.Seats.{seat_of}
use Rattle.ltx_agenda.specs.Placed.{IsPlaced, apart}
use Rattle.ltx_agenda.proofs.Listings.{run_within, run_read, run_reread, run_left, run_left_read, close_start, close_seated, close_once, close_list, close_row, close_rows, close_rooms, close_placed, close_own}
use Rattle.ltx_agenda.proofs.lanes.close_up.Goals as goal

pub index_mut-run-requires : goal.index_mut-run-requires
index_mut-run-requires c =
    let within = (run_within c.args.runs.now.items (seat_of c.args.seats.now) c.requires.placed c.args.number c.args.seat c.requires.number c.requires.seated).0 in
    let len = c.args.runs.now.ok.0 in
    omega arith

pub remove-requires : goal.remove-requires
remove-requires c =
    let within = run_within c.args.runs.now.items (seat_of c.args.seats.now) c.requires.placed c.args.number c.args.seat c.requires.number c.requires.seated in
    let run = run_read c.args.runs.now.items c.args.seat.run c.index_mut-run.result.now within.0 c.index_mut-run.ensures.value in
    record { place = subst (λ (r : Held). c.args.seat.at < length r.items) (sym run) within.1 }

pub index-requires : goal.index-requires
index-requires c =
    let within = (run_within c.args.runs.now.items (seat_of c.args.seats.now) c.requires.placed c.args.number c.args.seat c.requires.number c.requires.seated).0 in
    let len = c.args.runs.now.ok.0 in
    omega arith

pub reseat-requires-clause-start : goal.reseat-requires-clause-start
reseat-requires-clause-start c =
    close_start c.args.runs.now.items (seat_of c.args.seats.now) c.requires.placed c.args.number c.requires.number c.args.seat c.requires.seated c.index.result.now
    (run_left_read c.args.runs.now.items (seat_of c.args.seats.now) c.requires.placed c.args.number c.args.seat c.requires.number c.requires.seated c.index_mut-run.result.now c.remove.new.self c.index.result.now c.index_mut-run.ensures.value c.remove.ensures.items c.index.ensures)

pub reseat-requires-clause-seated : goal.reseat-requires-clause-seated
reseat-requires-clause-seated c =
    close_seated c.args.runs.now.items (seat_of c.args.seats.now) c.requires.placed c.args.number c.requires.number c.args.seat c.requires.seated c.index.result.now
    (run_left_read c.args.runs.now.items (seat_of c.args.seats.now) c.requires.placed c.args.number c.args.seat c.requires.number c.requires.seated c.index_mut-run.result.now c.remove.new.self c.index.result.now c.index_mut-run.ensures.value c.remove.ensures.items c.index.ensures)

pub reseat-requires-clause-once : goal.reseat-requires-clause-once
reseat-requires-clause-once c =
    close_once c.args.runs.now.items (seat_of c.args.seats.now) c.requires.placed c.args.number c.requires.number c.args.seat c.requires.seated c.index.result.now
    (run_left_read c.args.runs.now.items (seat_of c.args.seats.now) c.requires.placed c.args.number c.args.seat c.requires.number c.requires.seated c.index_mut-run.result.now c.remove.new.self c.index.result.now c.index_mut-run.ensures.value c.remove.ensures.items c.index.ensures)

pub returns-clause-placed : goal.returns-clause-placed
returns-clause-placed c =
    let same = run_reread c.args.runs.now.items c.args.seat.run c.remove.new.self c.index.result.now (run_within c.args.runs.now.items (seat_of c.args.seats.now) c.requires.placed c.args.number c.args.seat c.requires.number c.requires.seated).0 c.index.ensures in
    subst (λ (r : Held). IsPlaced (rows_of (set c.args.runs.now.items c.args.seat.run r)) (apart c.args.number (seat_of c.reseat.new.seats))) same
    (close_placed c.args.runs.now.items (seat_of c.args.seats.now) c.requires.placed c.args.number c.requires.number c.args.seat c.requires.seated c.index.result.now
    (run_left_read c.args.runs.now.items (seat_of c.args.seats.now) c.requires.placed c.args.number c.args.seat c.requires.number c.requires.seated c.index_mut-run.result.now c.remove.new.self c.index.result.now c.index_mut-run.ensures.value c.remove.ensures.items c.index.ensures)
    (seat_of c.reseat.new.seats) c.reseat.ensures.anew)

pub returns-clause-seated : goal.returns-clause-seated
returns-clause-seated c =
    close_own c.args.runs.now.items (seat_of c.args.seats.now) c.requires.placed c.args.number c.requires.number c.args.seat c.requires.seated c.index.result.now
    (run_left_read c.args.runs.now.items (seat_of c.args.seats.now) c.requires.placed c.args.number c.args.seat c.requires.number c.requires.seated c.index_mut-run.result.now c.remove.new.self c.index.result.now c.index_mut-run.ensures.value c.remove.ensures.items c.index.ensures)
    (seat_of c.reseat.new.seats) c.reseat.ensures.anew

pub returns-clause-list : goal.returns-clause-list
returns-clause-list c =
    close_list c.args.runs.now.items (seat_of c.args.seats.now) c.requires.placed c.args.number c.requires.number c.args.seat c.requires.seated c.remove.new.self
    (run_left c.args.runs.now.items (seat_of c.args.seats.now) c.requires.placed c.args.number c.args.seat c.requires.number c.requires.seated c.index_mut-run.result.now c.remove.new.self c.index_mut-run.ensures.value c.remove.ensures.items)

pub returns-clause-row : goal.returns-clause-row
returns-clause-row c =
    close_row c.args.runs.now.items (seat_of c.args.seats.now) c.requires.placed c.args.number c.requires.number c.args.seat c.requires.seated c.remove.new.self
    (run_left c.args.runs.now.items (seat_of c.args.seats.now) c.requires.placed c.args.number c.args.seat c.requires.number c.requires.seated c.index_mut-run.result.now c.remove.new.self c.index_mut-run.ensures.value c.remove.ensures.items)

pub returns-clause-rows : goal.returns-clause-rows
returns-clause-rows c =
    close_rows c.args.runs.now.items (seat_of c.args.seats.now) c.requires.placed c.args.number c.requires.number c.args.seat c.requires.seated c.remove.new.self
    (run_left c.args.runs.now.items (seat_of c.args.seats.now) c.requires.placed c.args.number c.args.seat c.requires.number c.requires.seated c.index_mut-run.result.now c.remove.new.self c.index_mut-run.ensures.value c.remove.ensures.items)

pub returns-clause-there : goal.returns-clause-there
returns-clause-there c = (run_within c.args.runs.now.items (seat_of c.args.seats.now) c.requires.placed c.args.number c.args.seat c.requires.number c.requires.seated).0

pub returns-clause-rooms : goal.returns-clause-rooms
returns-clause-rooms c =
    let within = run_within c.args.runs.now.items (seat_of c.args.seats.now) c.requires.placed c.args.number c.args.seat c.requires.number c.requires.seated in
    let run = run_read c.args.runs.now.items c.args.seat.run c.index_mut-run.result.now within.0 c.index_mut-run.ensures.value in
    close_rooms c.args.runs.now.items (seat_of c.args.seats.now) c.requires.placed c.args.number c.requires.number c.args.seat c.requires.seated c.remove.new.self
    (run_left c.args.runs.now.items (seat_of c.args.seats.now) c.requires.placed c.args.number c.args.seat c.requires.number c.requires.seated c.index_mut-run.result.now c.remove.new.self c.index_mut-run.ensures.value c.remove.ensures.items)
    (subst (λ (r : Held). r.room ≤ c.remove.new.self.room) run c.remove.ensures.room)
