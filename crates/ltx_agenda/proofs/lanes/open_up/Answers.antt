use Rattle.std.proofs.Common.{sym, arith, subst, ◌<◌, length, set}
use Rattle.ltx_agenda.specs.Runs.{Held, rows_of}
use Rattle.ltx_agenda.specs.Seats.{seat_of}
use Rattle.ltx_agenda.specs.Placed.{IsPlaced}
use Rattle.ltx_agenda.proofs.Listings.{stands_within, run_read, run_reread, run_came, run_came_read, open_start, open_seated, open_once, open_list, open_row, open_rows, open_placed}
use Rattle.ltx_agenda.proofs.lanes.open_up.Goals as goal

pub index_mut-run-requires : goal.index_mut-run-requires
index_mut-run-requires c =
    let within = (stands_within c.args.runs.now.items c.args.seat.run c.args.seat.at c.requires.here).0 in
    let len = c.args.runs.now.ok.0 in
    omega arith

pub insert-requires-clause-place : goal.insert-requires-clause-place
insert-requires-clause-place c =
    let within = stands_within c.args.runs.now.items c.args.seat.run c.args.seat.at c.requires.here in
    let run = run_read c.args.runs.now.items c.args.seat.run c.index_mut-run.result.now within.0 c.index_mut-run.ensures.value in
    subst (λ (r : Held). c.args.seat.at < length r.items) (sym run) within.1

pub insert-requires-clause-room : goal.insert-requires-clause-room
insert-requires-clause-room c =
    let within = stands_within c.args.runs.now.items c.args.seat.run c.args.seat.at c.requires.here in
    let run = run_read c.args.runs.now.items c.args.seat.run c.index_mut-run.result.now within.0 c.index_mut-run.ensures.value in
    subst (λ (r : Held). 0 < r.room) (sym run) c.requires.room

pub index-requires : goal.index-requires
index-requires c =
    let within = (stands_within c.args.runs.now.items c.args.seat.run c.args.seat.at c.requires.here).0 in
    let len = c.args.runs.now.ok.0 in
    omega arith

pub reseat-requires-clause-start : goal.reseat-requires-clause-start
reseat-requires-clause-start c =
    let within = stands_within c.args.runs.now.items c.args.seat.run c.args.seat.at c.requires.here in
    open_start c.args.runs.now.items (seat_of c.args.seats.now) c.args.tx c.requires.number c.requires.placed c.args.seat.run c.args.seat.at c.requires.here c.index.result.now
    (run_came_read c.args.runs.now.items c.args.seat.run c.args.seat.at c.args.tx (stands_within c.args.runs.now.items c.args.seat.run c.args.seat.at c.requires.here).0 c.index_mut-run.result.now c.insert.new.self c.index.result.now c.index_mut-run.ensures.value c.insert.ensures.items c.index.ensures) within.1

pub reseat-requires-clause-seated : goal.reseat-requires-clause-seated
reseat-requires-clause-seated c =
    open_seated c.args.runs.now.items (seat_of c.args.seats.now) c.args.tx c.requires.number c.requires.placed c.args.seat.run c.args.seat.at c.requires.here c.index.result.now
    (run_came_read c.args.runs.now.items c.args.seat.run c.args.seat.at c.args.tx (stands_within c.args.runs.now.items c.args.seat.run c.args.seat.at c.requires.here).0 c.index_mut-run.result.now c.insert.new.self c.index.result.now c.index_mut-run.ensures.value c.insert.ensures.items c.index.ensures) c.requires.seated

pub reseat-requires-clause-once : goal.reseat-requires-clause-once
reseat-requires-clause-once c =
    open_once c.args.runs.now.items (seat_of c.args.seats.now) c.args.tx c.requires.number c.requires.placed c.args.seat.run c.args.seat.at c.requires.here c.index.result.now
    (run_came_read c.args.runs.now.items c.args.seat.run c.args.seat.at c.args.tx (stands_within c.args.runs.now.items c.args.seat.run c.args.seat.at c.requires.here).0 c.index_mut-run.result.now c.insert.new.self c.index.result.now c.index_mut-run.ensures.value c.insert.ensures.items c.index.ensures)

pub returns-clause-placed : goal.returns-clause-placed
returns-clause-placed c =
    let same = run_reread c.args.runs.now.items c.args.seat.run c.insert.new.self c.index.result.now (stands_within c.args.runs.now.items c.args.seat.run c.args.seat.at c.requires.here).0 c.index.ensures in
    subst (λ (r : Held). IsPlaced (rows_of (set c.args.runs.now.items c.args.seat.run r)) (seat_of c.reseat.new.seats)) same
    (open_placed c.args.runs.now.items (seat_of c.args.seats.now) c.args.tx c.requires.number c.requires.placed c.args.seat.run c.args.seat.at c.requires.here c.index.result.now
    (run_came_read c.args.runs.now.items c.args.seat.run c.args.seat.at c.args.tx (stands_within c.args.runs.now.items c.args.seat.run c.args.seat.at c.requires.here).0 c.index_mut-run.result.now c.insert.new.self c.index.result.now c.index_mut-run.ensures.value c.insert.ensures.items c.index.ensures)
    (seat_of c.reseat.new.seats) c.reseat.ensures.anew)

pub returns-clause-list : goal.returns-clause-list
returns-clause-list c =
    open_list c.args.runs.now.items (seat_of c.args.seats.now) c.args.tx c.requires.number c.requires.placed c.args.seat.run c.args.seat.at c.requires.here c.insert.new.self
    (run_came c.args.runs.now.items c.args.seat.run c.args.seat.at c.args.tx (stands_within c.args.runs.now.items c.args.seat.run c.args.seat.at c.requires.here).0 c.index_mut-run.result.now c.insert.new.self c.index_mut-run.ensures.value c.insert.ensures.items)

pub returns-clause-row : goal.returns-clause-row
returns-clause-row c =
    open_row c.args.runs.now.items (seat_of c.args.seats.now) c.args.tx c.requires.number c.requires.placed c.args.seat.run c.args.seat.at c.requires.here c.insert.new.self
    (run_came c.args.runs.now.items c.args.seat.run c.args.seat.at c.args.tx (stands_within c.args.runs.now.items c.args.seat.run c.args.seat.at c.requires.here).0 c.index_mut-run.result.now c.insert.new.self c.index_mut-run.ensures.value c.insert.ensures.items)

pub returns-clause-rows : goal.returns-clause-rows
returns-clause-rows c =
    open_rows c.args.runs.now.items (seat_of c.args.seats.now) c.args.tx c.requires.number c.requires.placed c.args.seat.run c.args.seat.at c.requires.here c.insert.new.self
    (run_came c.args.runs.now.items c.args.seat.run c.args.seat.at c.args.tx (stands_within c.args.runs.now.items c.args.seat.run c.args.seat.at c.requires.here).0 c.index_mut-run.result.now c.insert.new.self c.index_mut-run.ensures.value c.insert.ensures.items)

pub returns-clause-there : goal.returns-clause-there
returns-clause-there c = (stands_within c.args.runs.now.items c.args.seat.run c.args.seat.at c.requires.here).0
