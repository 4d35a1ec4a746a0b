use Rattle.std.proofs.Common.{refl, length, ℕ, List, Some, drop, sym, ap, ◌∙◌, subst, ◌≡◌, ◌∷◌, ◌<◌, arith, slice_get, []}
use Rattle.std.proofs.lemmas.Option.{slice_get_read}
use Rattle.ltx_model.specs.declared.looked.Noted.{Noted}
use Rattle.ltx_model.specs.declared.rows.StoredRow.{StoredRow}
use Rattle.ltx_validate.specs.Differences.{Tells}
use Rattle.ltx_validate.proofs.Outcomes.{ArePassed, next_place, next_left, no_more, passed_more, passed_at, passed_by, passed_all, first_is}
use Rattle.ltx_validate.proofs.check.first_change.Goals.{then-mark-newest+in_ok-difference+in_default-2, else-mark-newest}
use Rattle.ltx_validate.proofs.check.first_change.Goals as goal

pub returns-in-Some-2 : goal.returns-in-Some-2
returns-in-Some-2 g c steps are marked =
    let rows_at : ℕ → List StoredRow = λ mark. g.L.Marked.rows_at mark c.args.latest.now in
    let now = g.L.Latest.rows c.args.latest.now in
    let note : Noted = c.index-notes-place.result in
    let notes : List Noted = c.noted-notes.result.now in
    let next : drop c.loop-mark.place c.args.tx.now.marks ≡ c.in-Some.mark ∷ c.next.new.self = sym c.loop-mark.invariant.left ∙ c.in-Some.ensures.some in
    let within : c.loop-mark.place < length notes = let place = next_place c.loop-mark.place c.args.tx.now.marks c.in-Some.mark c.next.new.self next in omega (arith, place, ap length c.marks-marks.ensures.value, c.marks-marks.ensures.count, ap length c.noted-notes.ensures.value) in
    let here : slice_get notes c.loop-mark.place ≡ Some note = slice_get_read notes (length notes) c.loop-mark.place note refl within c.index-notes-place.is in
    rw c.changed.ensures (
      (λ table n touched held. cc),
      first_is rows_at now notes c.args.tx.now.marks c.loop-mark.place note c.in-Some.mark c.next.new.self c.in-Some-2.difference here next c.loop-mark.invariant.passed
          (λ ordered before. subst (Tells now note.table note.reach) c.in-Some-2.is (c.in_ok-difference.ensures ordered before)) steps (rw c.noted-notes.ensures.value are) marked,
    )

pub loop-mark-preserved : goal.loop-mark-preserved
loop-mark-preserved g c =
    let rows_at : ℕ → List StoredRow = λ mark. g.L.Marked.rows_at mark c.args.latest.now in
    let now = g.L.Latest.rows c.args.latest.now in
    let notes : List Noted = c.noted-notes.result.now in
    let marks : List ℕ = c.args.tx.now.marks in
    let next : drop c.loop-mark.place marks ≡ c.in-Some.mark ∷ c.next.new.self = sym c.loop-mark.invariant.left ∙ c.in-Some.ensures.some in
    let within : c.loop-mark.place < length notes = let place = next_place c.loop-mark.place marks c.in-Some.mark c.next.new.self next in omega (arith, place, ap length c.marks-marks.ensures.value, c.marks-marks.ensures.count, ap length c.noted-notes.ensures.value) in
    record {
      left = next_left c.loop-mark.place marks c.in-Some.mark c.next.new.self next;
      within = let same = ap length c.noted-notes.ensures.value in omega (arith, within, same);
      passed = passed_more rows_at now c.loop-mark.place notes marks c.in-Some.mark c.next.new.self within next c.loop-mark.invariant.passed (
          elim c.if-mark-newest.branch [
            | then-mark-newest+in_ok-difference+in_default-2 w ↦
                let note : Noted = w.index-notes-place.result in
                let here : slice_get notes c.loop-mark.place ≡ Some note = slice_get_read notes (length notes) c.loop-mark.place note refl within w.index-notes-place.is in
                passed_by rows_at now notes c.loop-mark.place note c.in-Some.mark here (λ ordered before. subst (Tells now note.table note.reach) w.in_default-2.is (w.in_ok-difference.ensures ordered before))
            | else-mark-newest w ↦ λ note here. passed_at rows_at now c.in-Some.mark (c.newest_mark-newest.ensures.latest c.in-Some.mark w.if-mark-newest.false) note
          ]);
    }

pub returns : goal.returns
returns g c steps are marked =
    let rows_at : ℕ → List StoredRow = λ mark. g.L.Marked.rows_at mark c.args.latest.now in
    let now = g.L.Latest.rows c.args.latest.now in
    let notes : List Noted = c.noted-notes.result.now in
    let marks : List ℕ = c.args.tx.now.marks in
    let none : drop c.loop-mark.place marks ≡ [] = sym c.loop-mark.invariant.left ∙ c.in_default.ensures.none in
    let all : c.loop-mark.place ≡ length notes = no_more c.loop-mark.place (length notes) marks none (ap length (sym c.marks-marks.ensures.value) ∙ c.marks-marks.ensures.count ∙ ap length (sym c.noted-notes.ensures.value)) (let within = c.loop-mark.invariant.within in let same = ap length c.noted-notes.ensures.value in omega (arith, within, same)) in
    ((λ table n touched held. cc), passed_all rows_at now notes marks (subst (λ k. ArePassed rows_at now k notes marks) all c.loop-mark.invariant.passed) steps (rw c.noted-notes.ensures.value are) marked)
