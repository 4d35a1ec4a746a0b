use Rattle.std.proofs.Common.{◌≡◌, ◌∙◌, ◌++◌, ℕ, [], take, ap, arith, rules}
use Rattle.std.proofs.lemmas.Grind.{common_steps}
use Rattle.ltx_check.specs.Opens.{desk_after}
use Rattle.ltx_check.specs.Replays.{places_at, place_if, is_number}
use Rattle.ltx_check.proofs.Gathering.{gathered_none, gathered_more, gathered_all}
use Rattle.ltx_check.proofs.parts.parts_of.Goals as goal

pub loop-place-init : goal.loop-place-init
loop-place-init c =
    let none : (n : ℕ) → places_at c.new-parts.result n ≡ [] = λ n. grind (arith, common_steps) in
    gathered_none c.args.entries.now c.new-seats.result c.new-parts.result (search rules) none

pub loop-place-preserved : goal.loop-place-preserved
loop-place-preserved c =
    let entry = c.index-entries-place.result in
    let next : c.take.new.self ≡ desk_after c.loop-place.seats entry = search rules in
    gathered_more c.args.entries.now c.loop-place.place c.loop-place.seats c.take.new.self c.loop-place.parts c.note_some.new.parts entry c.loop-place.invariant (omega (arith, c.loop-place-test.true)) c.index-entries-place.is next
    (λ q. c.in_ok-note_some.ensures q ∙ ap (λ o. places_at c.loop-place.parts q ++ place_if (is_number q o) c.loop-place.place) c.answered_by.ensures)

pub returns : goal.returns
returns c =
    let all : take c.loop-place.place c.args.entries.now ≡ c.args.entries.now = grind (arith, common_steps) in
    gathered_all c.args.entries.now c.loop-place.place c.loop-place.seats c.loop-place.parts c.loop-place.invariant all
