use Rattle.std.proofs.Common.{ℕ, sym}
use Rattle.ltx_model.specs.declared.looked.Noted.{Noted}
use Rattle.ltx_lemmas.proofs.Lists.{all_contains}
use Rattle.ltx_forward.specs.Earliest.{IsAfter, IsWriterFor, HasOrderedOwn}
use Rattle.ltx_forward.proofs.Improving.{given_start, given_more}
use Rattle.ltx_forward.proofs.NoteWriters.{notes_writers}
use Rattle.ltx_forward.proofs.overtake.earliest_by_notes.Goals as goal

pub loop-note-init : goal.loop-note-init
loop-note-init c = given_start c.args.agenda.now.list (λ (note : Noted) (n : ℕ). IsWriterFor c.args.records.now c.args.agenda.now.list c.args.looking.now.tx c.args.looking.now.mark note n × IsAfter c.args.agenda.now.list c.args.looking.now.after n) c.args.notes.now c.args.best

pub earliest_by_note-requires-clause-best : goal.earliest_by_note-requires-clause-best
earliest_by_note-requires-clause-best c = c.loop-note.invariant.member c.requires.best

pub earliest_by_note-requires-clause-ordered : goal.earliest_by_note-requires-clause-ordered
earliest_by_note-requires-clause-ordered c = all_contains (λ (note : Noted). HasOrderedOwn note.reach) c.args.notes.now c.note-item.result c.requires.ordered (c.loop-note.note-index, c.loop-note-test.true, sym c.note-item.is)

pub loop-note-preserved : goal.loop-note-preserved
loop-note-preserved c =
    given_more c.args.agenda.now.list (λ (note : Noted) (n : ℕ). IsWriterFor c.args.records.now c.args.agenda.now.list c.args.looking.now.tx c.args.looking.now.mark note n × IsAfter c.args.agenda.now.list c.args.looking.now.after n) c.args.notes.now
    c.loop-note.note-index c.note-item.result _ _ _ c.loop-note-test.true c.note-item.is c.loop-note.invariant c.in_ok-found.ensures

pub returns : goal.returns
returns c =
    notes_writers c.args.records.now c.args.agenda.now.list c.args.looking.now.tx c.args.looking.now.mark c.args.looking.now.after c.args.notes.now c.loop-note.note-index c.args.best c.loop-note.found c.loop-note-test.false c.loop-note.invariant
