use Rattle.std.proofs.Common.{option_map, sym, ◌∙◌}
use Rattle.ltx_validate.specs.Turns.{Turning}
use Rattle.ltx_validate.proofs.Ways.{way_start, way_differs, way_more, way_kept, fewer_rows}
use Rattle.ltx_validate.proofs.range.difference_in_range.Goals as goal

pub loop-turn-init : goal.loop-turn-init
loop-turn-init g c = way_start (g.L.Latest.rows c.args.latest.now) c.args.table c.args.low.now c.args.high.now c.args.looks.now c.args.own.now (option_map (λ r. (r.0.now, r.1)) c.next_row-row.result) (rw (sym c.bytes.ensures.value) c.next_row-row.ensures)

pub returns-then-has_changed : goal.returns-then-has_changed
returns-then-has_changed g c ordered =
    let t : Turning = record { key = c.in-Some.turn.key.now; found = c.in-Some.turn.found; current = c.in-Some.turn.current; left = c.in-Some.turn.left.now } in
    rw c.in_ok-at.ensures (
    way_differs (g.L.Latest.rows c.args.latest.now) c.args.table c.args.low.now c.args.high.now c.args.looks.now c.args.own.now c.loop-turn.left.now (option_map (λ r. (r.0.now, r.1)) c.loop-turn.row) c.loop-turn.invariant
    t c.has_changed.result c.in-Some.ensures.some c.has_changed.ensures c.if-has_changed.true ordered)

pub loop-turn-smaller-then-is_some : goal.loop-turn-smaller-then-is_some
loop-turn-smaller-then-is_some g c =
    let t : Turning = record { key = c.in-Some.turn.key.now; found = c.in-Some.turn.found; current = c.in-Some.turn.current; left = c.in-Some.turn.left.now } in
    fewer_rows (g.L.Latest.rows c.args.latest.now) c.args.table c.args.high.now c.loop-turn.left.now (option_map (λ r. (r.0.now, r.1)) c.loop-turn.row) t (option_map (λ r. (r.0.now, r.1)) c.next_row-row-then-is_some.result)
    c.loop-turn.invariant.next_is c.in-Some.ensures.some (sym c.is_some.ensures ∙ c.if-is_some.true) (rw (sym c.bytes-then-is_some.ensures.value) c.next_row-row-then-is_some.ensures)

pub loop-turn-preserved-then-is_some : goal.loop-turn-preserved-then-is_some
loop-turn-preserved-then-is_some g c =
    let t : Turning = record { key = c.in-Some.turn.key.now; found = c.in-Some.turn.found; current = c.in-Some.turn.current; left = c.in-Some.turn.left.now } in
    way_more (g.L.Latest.rows c.args.latest.now) c.args.table c.args.low.now c.args.high.now c.args.looks.now c.args.own.now c.loop-turn.left.now (option_map (λ r. (r.0.now, r.1)) c.loop-turn.row) c.loop-turn.invariant
    t c.has_changed.result c.in-Some.ensures.some c.has_changed.ensures c.if-has_changed.false (option_map (λ r. (r.0.now, r.1)) c.next_row-row-then-is_some.result) (rw (sym c.bytes-then-is_some.ensures.value) c.next_row-row-then-is_some.ensures)

pub loop-turn-preserved : goal.loop-turn-preserved
loop-turn-preserved g c =
    let t : Turning = record { key = c.in-Some.turn.key.now; found = c.in-Some.turn.found; current = c.in-Some.turn.current; left = c.in-Some.turn.left.now } in
    way_kept (g.L.Latest.rows c.args.latest.now) c.args.table c.args.low.now c.args.high.now c.args.looks.now c.args.own.now c.loop-turn.left.now (option_map (λ r. (r.0.now, r.1)) c.loop-turn.row) c.loop-turn.invariant
    t c.has_changed.result c.in-Some.ensures.some c.has_changed.ensures c.if-has_changed.false (sym c.is_some.ensures ∙ c.if-is_some.false)
