use Rattle.std.proofs.Common.{◌≡◌, ◌<◌, refl, sym, ap, ◌∙◌, subst, arith, length, List, Some, slice_get}
use Rattle.std.specs.Option.{option_copied}
use Rattle.std.proofs.lemmas.Option.{slice_get_read}
use Rattle.ltx_model.specs.declared.looked.Noted.{Noted}
use Rattle.ltx_forward.specs.Lates.{stands_from}
use Rattle.ltx_forward.proofs.LateNotes.{ArePassed, one_passed}
use Rattle.ltx_forward.proofs.FoundLate.{late_none, late_first}
use Rattle.ltx_forward.proofs.late.first_late.Goals as goal

pub returns-in-Some : goal.returns-in-Some
returns-in-Some c s i writes lives records asked target =
    let notes : List Noted = c.noted-notes.result.now in
    let same : notes ≡ c.args.tx.now.list.notes = c.noted-notes.ensures.value in
    let within : c.loop-place.place < length notes = let count = c.count-place-end.ensures.value in let len = ap length same in let less = c.loop-place-test.true in omega (arith, count, len, less) in
    let note : Noted = c.index-notes-place.result in
    let is : slice_get notes c.loop-place.place ≡ Some note = slice_get_read notes (length notes) c.loop-place.place note refl within c.index-notes-place.is in
    let found = late_first c.args.tx.now c.args.agenda.now c.args.p c.requires.place s i writes lives records asked target c.loop-place.place note c.in-Some.look.now c.loop-place.invariant (ap (λ (l : List Noted). slice_get l c.loop-place.place) (sym same) ∙ is) (λ rises. sym (c.late_look.ensures rises) ∙ ap option_copied c.in-Some.is) in
    rw c.in_ok-witness.ensures found

pub loop-place-preserved : goal.loop-place-preserved
loop-place-preserved c =
    let notes : List Noted = c.noted-notes.result.now in
    let same : notes ≡ c.args.tx.now.list.notes = c.noted-notes.ensures.value in
    let within : c.loop-place.place < length notes = let count = c.count-place-end.ensures.value in let len = ap length same in let less = c.loop-place-test.true in omega (arith, count, len, less) in
    let note : Noted = c.index-notes-place.result in
    let is : slice_get notes c.loop-place.place ≡ Some note = slice_get_read notes (length notes) c.loop-place.place note refl within c.index-notes-place.is in
    one_passed (stands_from c.args.agenda.now.list c.args.p) c.loop-place.place c.args.tx.now.list.notes note c.loop-place.invariant (ap (λ (l : List Noted). slice_get l c.loop-place.place) (sym same) ∙ is) (λ rises. sym (c.late_look.ensures rises) ∙ ap option_copied c.in_default.is)

pub returns : goal.returns
returns c s i writes lives records asked target =
    let all : c.loop-place.place ≡ length c.args.tx.now.list.notes = let count = c.count-place-end.ensures.value in let past = c.loop-place-test.false in let within = c.loop-place.auto.place-end in omega (arith, count, past, within) in
    late_none c.args.tx.now c.args.agenda.now c.args.p c.requires.place s i writes lives records asked target (subst (λ k. ArePassed (stands_from c.args.agenda.now.list c.args.p) k c.args.tx.now.list.notes) all c.loop-place.invariant)
