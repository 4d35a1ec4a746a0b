use Rattle.std.proofs.Common.{◌≡◌, false, rules, ap, ◌∙◌}
use Rattle.std.proofs.lemmas.Result.{IfOk-weaker}
use Rattle.ltx_model.specs.declared.looked.Reach.TheVariants.{Point}
use Rattle.ltx_forward.proofs.NoteWriters.{point_writers}
use Rattle.ltx_forward.proofs.overtake.earliest_by_note.Goals as goal

pub returns-in-Point-default-default-false : goal.returns-in-Point-default-default-false
returns-in-Point-default-default-false c =
    let own : c.in-Point-default-default-false.own ≡ false = search rules in
    IfOk-weaker c.earliest_writer.result _ _ (λ found one. point_writers c.args.records.now c.args.agenda.now.list c.args.looking.now.tx c.args.looking.now.mark c.args.looking.now.after c.args.note.now c.args.best found c.in-Point-default-default-false.key c.in-Point-default-default-false.look
    (c.in-Point-default-default-false.is ∙ ap (Point c.in-Point-default-default-false.key c.in-Point-default-default-false.look) own) one) c.earliest_writer.ensures
