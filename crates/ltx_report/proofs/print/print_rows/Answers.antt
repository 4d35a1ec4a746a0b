use Rattle.std.proofs.Common.{rules, ◌≡◌, ◌+◌, ◌++◌, take, drop, flat_map, sym, subst, ◌∙◌}
use Rattle.ltx_reply.specs.Recoveries.{row_line}
use Rattle.ltx_report.proofs.Gathered.{WritesFront, front_in, front_more, gathers_more, front_so_far, rows_more, rows_parts}
use Rattle.ltx_report.proofs.print.print_rows.Goals as goal

-- src/print.rt:143:9
pub returns-in_err-print_row-clause-front : goal.returns-in_err-print_row-clause-front
returns-in_err-print_row-clause-front g c =
    let rows = c.args.rows.now in
    let i = c.loop-row.row-index in
    let row = c.row-item.result in
    let more : flat_map row_line (take (i + 1) rows) ≡ flat_map row_line (take i rows) ++ row_line row = rows_more rows i row (search rules) (search rules) in
    let front = front_more (g.K.Sink.written c.args.sink.now) (g.K.Sink.written c.loop-row.sink) (g.K.Sink.written c.print_row.new.sink) c.loop-row.text.items (row_line row) (flat_map row_line (take i rows)) c.loop-row.invariant.text c.print_row.ensures.front in
    subst (WritesFront (g.K.Sink.written c.args.sink.now) (g.K.Sink.written c.print_row.new.sink)) (rows_parts rows (i + 1))
    (front_in _ _ (flat_map row_line (take (i + 1) rows)) (flat_map row_line (drop (i + 1) rows)) (subst (WritesFront (g.K.Sink.written c.args.sink.now) (g.K.Sink.written c.print_row.new.sink)) (sym more) front))

-- src/print.rt:142:5
pub loop-row-preserved : goal.loop-row-preserved
loop-row-preserved g c =
    let rows = c.args.rows.now in
    let i = c.loop-row.row-index in
    let row = c.row-item.result in
    let more : flat_map row_line (take (i + 1) rows) ≡ flat_map row_line (take i rows) ++ row_line row = rows_more rows i row (search rules) (search rules) in
    let on = gathers_more (g.K.Sink.written c.args.sink.now) (g.K.Sink.written c.loop-row.sink) (g.K.Sink.written c.print_row.new.sink) c.loop-row.text.items (row_line row) (flat_map row_line (take i rows)) c.loop-row.invariant.text c.print_row.new.text.items c.in_ok-print_row.ensures.whole in
    record {
      text = (on.0, on.1, on.2 ∙ sym more);
      calm = c.in_ok-print_row.ensures.calm ∙ c.loop-row.invariant.calm;
    }

-- src/print.rt:130:1
pub returns-clause-front : goal.returns-clause-front
returns-clause-front g c =
    let rows = c.args.rows.now in
    let i = c.loop-row.row-index in
    subst (WritesFront (g.K.Sink.written c.args.sink.now) (g.K.Sink.written c.loop-row.sink)) (rows_parts rows i)
    (front_so_far (g.K.Sink.written c.args.sink.now) (g.K.Sink.written c.loop-row.sink) c.loop-row.text.items (flat_map row_line (take i rows)) (flat_map row_line (drop i rows)) c.loop-row.invariant.text)
