use Rattle.std.proofs.Common.{◌≡◌, ◌∙◌, ap, sym, rules, Some, None, true, false, option_copied}
use Rattle.ltx_model.specs.declared.looked.Noted.{Noted}
use Rattle.ltx_model.specs.declared.looked.Reach.TheVariants.{Point}
use Rattle.ltx_model.specs.NoteLists.{with_note}
use Rattle.ltx_buffer.specs.Own.{write_at}
use Rattle.ltx_open.specs.Views.{OpenView, notes_of}
use Rattle.ltx_open.specs.Seen.{answered}
use Rattle.ltx_open.proofs.GetsAtMark.{own_got, seen_got}
use Rattle.ltx_open.proofs.open.Open.get.Goals as goal

pub returns-in-Some-clause-done : goal.returns-in-Some-clause-done
returns-in-Some-clause-done c =
    let note : Noted = record { table = c.args.table; reach = Point c.args.key.now None true; write = None } in
    let has : write_at c.self.inside.own.writes (record { table = c.args.table; key = c.args.key.now }) ≡ Some c.in-Some.write.now = search rules in
    let answer : c.in_ok-reply.reply ≡ answered c.in-Some.write.now.put = search rules in
    let notes : notes_of c.note_get.new.self ≡ with_note (notes_of c.self.inside.kind) note = search rules in
    own_got c.args.store.now c.args.mark c.args.self.now _ c.args.table c.args.key.now c.in-Some.write.now c.in_ok-reply.reply
    (ap (λ (s : OpenView). write_at s.own.writes (record { table = c.args.table; key = c.args.key.now })) (sym c.self.view_is) ∙ has)
    answer
    c.requires.marked
    (c.note_get.ensures.number ∙ ap (λ (s : OpenView). s.number) c.self.view_is)
    (c.note_get.ensures.stage ∙ ap (λ (s : OpenView). s.stage) c.self.view_is)
    (notes ∙ ap (λ (s : OpenView). with_note s.notes note) c.self.view_is)
    (ap (λ (s : OpenView). s.own.writes) c.self.view_is)

pub returns-clause-done : goal.returns-clause-done
returns-clause-done c =
    let note : Noted = record { table = c.args.table; reach = Point c.args.key.now c.in_ok-look.look false; write = None } in
    let has : write_at c.self.inside.own.writes (record { table = c.args.table; key = c.args.key.now }) ≡ None = search rules in
    let notes : notes_of c.note_get-2.new.self ≡ with_note (notes_of c.self.inside.kind) note = search rules in
    seen_got c.args.store.now c.args.mark c.get_at-seen.ensures.in_order c.args.self.now _ c.args.table c.args.key.now (option_copied c.get_at-seen.result) c.in_ok-look.look c.in_ok-reply-2.reply
    (ap (λ (s : OpenView). write_at s.own.writes (record { table = c.args.table; key = c.args.key.now })) (sym c.self.view_is) ∙ has)
    c.get_at-seen.ensures.version c.in_ok-reply-2.ensures c.in_ok-look.ensures
    c.requires.marked
    (c.note_get-2.ensures.number ∙ ap (λ (s : OpenView). s.number) c.self.view_is)
    (c.note_get-2.ensures.stage ∙ ap (λ (s : OpenView). s.stage) c.self.view_is)
    (notes ∙ ap (λ (s : OpenView). with_note s.notes note) c.self.view_is)
    (ap (λ (s : OpenView). s.own.writes) c.self.view_is)
