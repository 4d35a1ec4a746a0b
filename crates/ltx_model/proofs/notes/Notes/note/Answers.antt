use Rattle.ltx_model.proofs.NoteMarks.{noted_more}
use Rattle.ltx_model.proofs.notes.Notes.note.Goals as goal

pub returns-then-looks-clause-noted : goal.returns-then-looks-clause-noted
returns-then-looks-clause-noted c =
    noted_more _ c.self.inside.notes.items _ c.args.note c.self.inside.runs.items c.self.inside.earlier c.self.inside.mark c.self.invariant.within c.in_ok-push.ensures.items c.self.view_is

pub returns-else-looks-clause-noted : goal.returns-else-looks-clause-noted
returns-else-looks-clause-noted c =
    noted_more _ c.self.inside.notes.items _ c.args.note c.self.inside.runs.items c.self.inside.earlier c.self.inside.mark c.self.invariant.within c.in_ok-push.ensures.items c.self.view_is
