use Rattle.std.proofs.Common.{◌≡◌, ◌∙◌, ap, rules, None}
use Rattle.ltx_model.specs.declared.looked.Noted.{Noted}
use Rattle.ltx_model.specs.declared.looked.Reach.TheVariants.{Range}
use Rattle.ltx_model.specs.declared.replies.Reply.TheVariants.{Rows}
use Rattle.ltx_model.specs.NoteLists.{with_note}
use Rattle.ltx_buffer.specs.Own.{merged, keys_between}
use Rattle.ltx_open.specs.Views.{OpenView, notes_of}
use Rattle.ltx_open.proofs.ScansAtMark.{rising_found, scanned}
use Rattle.ltx_open.proofs.open.Open.scan.Goals as goal

pub merge-requires : goal.merge-requires
merge-requires c = record { rising = rising_found c.args.store.now c.args.mark c.args.table c.args.low.now c.args.high.now c.in_ok-rows.field-0.rows.items c.scan_at.ensures.in_order c.in_ok-rows.ensures.rows }

pub returns-clause-done : goal.returns-clause-done
returns-clause-done c =
    let note : Noted = record { table = c.args.table; reach = Range c.args.low.now c.args.high.now c.in_ok-rows.field-0.looks.items c.in_ok-own.own.items; write = None } in
    let notes : notes_of c.note_scan-2.new.self ≡ with_note (notes_of c.self.inside.kind) note = search rules in
    scanned c.args.store.now c.args.mark c.scan_at.ensures.in_order c.args.self.now _ c.args.table c.args.low.now c.args.high.now
    c.in_ok-rows.field-0.rows.items c.in_ok-rows-2.rows.items c.in_ok-rows.field-0.looks.items c.in_ok-own.own.items _
    c.in_ok-rows.ensures.rows
    (c.in_ok-rows-2.ensures.merged ∙ ap (λ (s : OpenView). merged s.own.writes c.args.table c.args.low.now c.args.high.now c.in_ok-rows.field-0.rows.items) c.self.view_is)
    c.in_ok-rows.ensures.looks
    (c.in_ok-own.ensures ∙ ap (λ (s : OpenView). keys_between s.own.writes c.args.table c.args.low.now c.args.high.now) c.self.view_is)
    (ap Rows c.from_vec.ensures.value)
    c.requires.marked
    (c.note_scan-2.ensures.number ∙ ap (λ (s : OpenView). s.number) c.self.view_is)
    (c.note_scan-2.ensures.stage ∙ ap (λ (s : OpenView). s.stage) c.self.view_is)
    (notes ∙ ap (λ (s : OpenView). with_note s.notes note) c.self.view_is)
    (ap (λ (s : OpenView). s.own.writes) c.self.view_is)
