use Rattle.std.proofs.Common.{sym, ◌∙◌, subst}
use Rattle.ltx_model.specs.Keys.{Cell}
use Rattle.ltx_model.specs.Records.{looked_up, has_written}
use Rattle.ltx_forward.specs.Contradicted.{AreMembers}
use Rattle.ltx_forward.proofs.KeptMembers.{passing_members, one_member}
use Rattle.ltx_forward.proofs.contradict.contradicted_reader.Goals as goal

pub earliest_from-requires-clause-members : goal.earliest_from-requires-clause-members
earliest_from-requires-clause-members c =
    let cell : Cell = record { table = c.args.table; key = c.args.key.now } in
    subst (AreMembers c.args.agenda.now.list) (sym (c.deref.ensures.value ∙ c.in_ok-readers.ensures)) (passing_members c.args.agenda.now.list (looked_up cell) c.args.records.now.kept c.requires.kept)

pub is_any_between-requires-clause-end : goal.is_any_between-requires-clause-end
is_any_between-requires-clause-end c =
    let cell : Cell = record { table = c.args.table; key = c.args.key.now } in
    one_member c.args.agenda.now.list c.deref.result.now c.in-Some.reader
    (subst (AreMembers c.args.agenda.now.list) (sym (c.deref.ensures.value ∙ c.in_ok-readers.ensures)) (passing_members c.args.agenda.now.list (looked_up cell) c.args.records.now.kept c.requires.kept))
    c.in-Some.ensures.one

pub is_any_between-requires-clause-members : goal.is_any_between-requires-clause-members
is_any_between-requires-clause-members c =
    let cell : Cell = record { table = c.args.table; key = c.args.key.now } in
    subst (AreMembers c.args.agenda.now.list) (sym (c.deref-2.ensures.value ∙ c.in_ok-writers.ensures)) (passing_members c.args.agenda.now.list (has_written cell) c.args.records.now.kept c.requires.kept)
