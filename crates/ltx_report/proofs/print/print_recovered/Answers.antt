use Rattle.std.proofs.Common.{◌≡◌, ◌++◌, flat_map, subst, ◌∙◌, rules}
use Rattle.ltx_log.proofs.Moments.{ok_map}
use Rattle.ltx_reply.specs.Recoveries.{row_line}
use Rattle.ltx_report.specs.Texts.{through_line}
use Rattle.ltx_report.proofs.Gathered.{WritesFront, front_in, front_so_far, rows_text, front_text, whole_text}
use Rattle.ltx_report.proofs.print.print_recovered.Goals as goal

-- src/print.rt:162:5
pub returns-in_err-print_rows-clause-front : goal.returns-in_err-print_rows-clause-front
returns-in_err-print_rows-clause-front g c = λ gate.
    let base = c.args.base.now in
    let rows : c.items.result.now ≡ base.rows = c.items.ensures.value ∙ c.rows.ensures.value in
    let is = rows_text base gate c.items.result.now rows in
    subst (WritesFront (g.K.Sink.written c.args.sink.now) (g.K.Sink.written c.print_rows.new.sink)) is (front_in _ _ (flat_map row_line c.items.result.now) (through_line base.epoch base.last) c.print_rows.ensures.front)

-- src/print.rt:160:1
pub returns-in-Ok-clause-whole : goal.returns-in-Ok-clause-whole
returns-in-Ok-clause-whole g c =
    let base = c.args.base.now in
    let rows : c.items.result.now ≡ base.rows = c.items.ensures.value ∙ c.rows.ensures.value in
    let held : c.deref.result.now ≡ c.print_rows.new.text.items ++ through_line base.epoch base.last = search rules in
    ok_map c.hand_over.result _ _
    (λ last gate. whole_text (g.K.Sink.written c.args.sink.now) (g.K.Sink.written c.print_rows.new.sink) (g.K.Sink.written c.hand_over.new.sink) base gate c.items.result.now c.print_rows.new.text.items c.deref.result.now rows held c.in_ok-print_rows.ensures.whole last)
    c.hand_over.ensures.whole

-- src/print.rt:160:1
pub returns-in-Ok-clause-front : goal.returns-in-Ok-clause-front
returns-in-Ok-clause-front g c = λ gate.
    let base = c.args.base.now in
    let rows : c.items.result.now ≡ base.rows = c.items.ensures.value ∙ c.rows.ensures.value in
    let held : c.deref.result.now ≡ c.print_rows.new.text.items ++ through_line base.epoch base.last = search rules in
    front_text (g.K.Sink.written c.args.sink.now) (g.K.Sink.written c.print_rows.new.sink) (g.K.Sink.written c.hand_over.new.sink) base gate c.items.result.now c.print_rows.new.text.items c.deref.result.now rows held c.in_ok-print_rows.ensures.whole c.hand_over.ensures.front

-- src/print.rt:150:1
pub returns-clause-front : goal.returns-clause-front
returns-clause-front g c = λ gate.
    let base = c.args.base.now in
    let rows : c.items.result.now ≡ base.rows = c.items.ensures.value ∙ c.rows.ensures.value in
    let is = rows_text base gate c.items.result.now rows in
    subst (WritesFront (g.K.Sink.written c.args.sink.now) (g.K.Sink.written c.print_rows.new.sink)) is
    (front_so_far _ _ c.print_rows.new.text.items (flat_map row_line c.items.result.now) (through_line base.epoch base.last) c.in_ok-print_rows.ensures.whole)
