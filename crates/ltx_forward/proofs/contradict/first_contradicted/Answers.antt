use Rattle.std.proofs.Common.{◌≡◌, ◌<◌, ◌+◌, length, List, Some, refl, sym, ap, ◌∙◌, subst, arith, slice_get}
use Rattle.std.proofs.lemmas.Option.{slice_get_read}
use Rattle.ltx_model.specs.declared.looked.Noted.{Noted}
use Rattle.ltx_forward.specs.Contradicted.{IsWitnessOf}
use Rattle.ltx_forward.proofs.ContradictedWrites.{AreSpared, spared_more, none_told, first_told}
use Rattle.ltx_forward.proofs.contradict.first_contradicted.Goals as goal

pub returns-in-Some : goal.returns-in-Some
returns-in-Some c s i writes lives asked target =
    let notes : List Noted = c.noted-notes.result.now in
    let same : notes ≡ c.args.tx.now.list.notes = c.noted-notes.ensures.value in
    let note : Noted = c.index-notes-place.result in
    let within : c.loop-place.place < length notes = let count = c.count-place-end.ensures.value in let less = c.loop-place-test.true in let lengths = ap length same in omega (arith, count, less, lengths) in
    let here : slice_get notes c.loop-place.place ≡ Some note = slice_get_read notes (length notes) c.loop-place.place note refl within c.index-notes-place.is in
    first_told s i c.args.tx.now writes lives c.args.records.now c.args.agenda.now asked c.args.p target c.loop-place.place note c.in-Some.witness
    (sym (ap (λ ns. slice_get ns c.loop-place.place) same) ∙ here)
    (subst (λ ns. AreSpared c.args.records.now c.args.agenda.now.list c.args.p ns c.loop-place.place) same c.loop-place.invariant)
    (subst (IsWitnessOf c.args.records.now c.args.agenda.now.list c.args.p (c.loop-place.place + 1) note) c.in-Some.is c.in_ok-witness.ensures)

pub loop-place-preserved : goal.loop-place-preserved
loop-place-preserved c =
    let notes : List Noted = c.noted-notes.result.now in
    let same : notes ≡ c.args.tx.now.list.notes = c.noted-notes.ensures.value in
    let note : Noted = c.index-notes-place.result in
    let within : c.loop-place.place < length notes = let count = c.count-place-end.ensures.value in let less = c.loop-place-test.true in let lengths = ap length same in omega (arith, count, less, lengths) in
    let here : slice_get notes c.loop-place.place ≡ Some note = slice_get_read notes (length notes) c.loop-place.place note refl within c.index-notes-place.is in
    spared_more c.args.records.now c.args.agenda.now.list c.args.p notes c.loop-place.place note c.loop-place.invariant here
    (subst (IsWitnessOf c.args.records.now c.args.agenda.now.list c.args.p (c.loop-place.place + 1) note) c.in_default.is c.in_ok-witness.ensures)

pub returns : goal.returns
returns c s i writes lives asked target =
    let notes : List Noted = c.noted-notes.result.now in
    let same : notes ≡ c.args.tx.now.list.notes = c.noted-notes.ensures.value in
    let all : c.loop-place.place ≡ length c.args.tx.now.list.notes = let count = c.count-place-end.ensures.value in let past = c.loop-place-test.false in let upto = c.loop-place.auto.place-end in omega (arith, count, past, upto) in
    none_told s i c.args.tx.now writes lives c.args.records.now c.args.agenda.now asked c.args.p target
    (subst (AreSpared c.args.records.now c.args.agenda.now.list c.args.p c.args.tx.now.list.notes) all (subst (λ ns. AreSpared c.args.records.now c.args.agenda.now.list c.args.p ns c.loop-place.place) same c.loop-place.invariant))
