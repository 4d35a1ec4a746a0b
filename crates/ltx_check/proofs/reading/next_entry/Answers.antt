use Rattle.std.proofs.Common.{◌≡◌, ◌∷◌, rules}
use Rattle.ltx_model.specs.declared.replies.Entry.{Entry}
use Rattle.ltx_check.specs.Cuts.{lines_of, ended}
use Rattle.ltx_check.specs.Texts.{entry_line, IsEntry}
use Rattle.ltx_check.proofs.ReadingLemmas.{begins_none}
use Rattle.ltx_check.proofs.reading.next_entry.Goals as goal

pub returns-in-Ok-None-clause-none : goal.returns-in-Ok-None-clause-none
returns-in-Ok-None-clause-none c =
    let line = c.in-Some.line.now in
    let more = c.in-Some.more.now in
    let cut : lines_of c.args.text.now ≡ ended line ∷ lines_of more = search rules in
    let none : (entry : Entry) → IsEntry entry → entry_line entry ≡ line → ⊥ = (rw c.in-Ok-None.field-0-is at c.in-Ok-None.ensures.none) in
    begins_none c.args.text.now line (lines_of more) cut none
