-- One note more has the present mark.
use Rattle.std.proofs.Common.{◌≡◌, ℕ, ◌+◌, ◌-◌, ◌≤◌, List, [], ◌∷◌, ◌++◌, length, replicate, append_assoc, sym, ap, ◌∙◌, arith}
use Rattle.std.specs.List.{flat_map}
use Rattle.std.proofs.lemmas.List.{length-append, replicate-append-replicate}
use Rattle.ltx_model.specs.declared.looked.Noted.{Noted}
use Rattle.ltx_model.specs.declared.notes.Run.{Run}
use Rattle.ltx_model.specs.NoteLists.{NoteList, with_note, marks_of}

marks_more : (runs : List Run) (mark count : ℕ) → marks_of runs mark (count + 1) ≡ marks_of runs mark count ++ mark ∷ []
marks_more runs mark count =
    ap (λ l. flat_map (λ r. replicate r.count r.mark) runs ++ l) (sym (replicate-append-replicate count 1 mark))
    ∙ sym (append_assoc (flat_map (λ r. replicate r.count r.mark) runs) (replicate count mark) (mark ∷ []))

abbrev listed : List Noted → List Run → ℕ → ℕ → NoteList
listed notes runs earlier mark = record { notes = notes; marks = marks_of runs mark (length notes - earlier); mark = mark }

pub noted_more : (old : NoteList) (notes all : List Noted) (note : Noted) (runs : List Run) (earlier mark : ℕ) → earlier ≤ length notes → all ≡ notes ++ note ∷ []
    → listed notes runs earlier mark ≡ old → listed all runs earlier mark ≡ with_note old note
noted_more old notes all note runs earlier mark within is same =
    let longer : length all ≡ length notes + 1 = ap length is ∙ length-append notes (note ∷ []) in
    let count : length all - earlier ≡ length notes - earlier + 1 = omega arith in
    let marks : marks_of runs mark (length all - earlier) ≡ marks_of runs mark (length notes - earlier) ++ mark ∷ [] =
    ap (marks_of runs mark) count ∙ marks_more runs mark (length notes - earlier) in
    (λ i. record { notes = is i; marks = marks i; mark = mark }) ∙ ap (λ l. with_note l note) same
