use Rattle.std.proofs.Common.{◌≡◌, [], ◌∷◌, Some, None, ap, sym, ◌∙◌, rules}
use Rattle.std.proofs.lemmas.List.{nil_from_length}
use Rattle.ltx_model.specs.Played.{after_events}
use Rattle.ltx_model.specs.Recovery.{unlawful_in, unlawful_from}
use Rattle.ltx_recover.specs.Frames.{placed_of, placed_in, frames_of, events_of_all}
use Rattle.ltx_recover.proofs.Unlawful.{unlawful_is, frame_passes, frame_fails, frame_events}
use Rattle.ltx_recover.proofs.frames.played.Goals as goal

pub returns-in-Some-2-clause-cause : goal.returns-in-Some-2-clause-cause
returns-in-Some-2-clause-cause c =
    let is : c.loop-placed.rest.now ≡ c.in-Some.placed.now ∷ c.in-Some.later.now = search rules in
    let found : unlawful_in c.loop-placed.closed c.loop-placed.order 0 c.in-Some.placed.now.frame.events ≡ Some c.in-Some-2.event = ap (unlawful_in c.loop-placed.closed c.loop-placed.order 0) (sym c.events.ensures.value) ∙ sym c.in_ok-event.ensures.found ∙ c.in-Some-2.is in
    unlawful_is _ ∙ c.loop-placed.invariant.found ∙ ap (λ l. unlawful_from c.loop-placed.closed c.loop-placed.order (placed_in l)) is
    ∙ frame_fails c.loop-placed.closed c.loop-placed.order (placed_of c.in-Some.placed.now) (placed_in c.in-Some.later.now) c.in-Some-2.event found

pub loop-placed-preserved : goal.loop-placed-preserved
loop-placed-preserved c =
    let is : c.loop-placed.rest.now ≡ c.in-Some.placed.now ∷ c.in-Some.later.now = search rules in
    let none : c.in_ok-event.field-0 ≡ None = search rules in
    let found : unlawful_in c.loop-placed.closed c.loop-placed.order 0 c.in-Some.placed.now.frame.events ≡ None = ap (unlawful_in c.loop-placed.closed c.loop-placed.order 0) (sym c.events.ensures.value) ∙ sym c.in_ok-event.ensures.found ∙ none in
    let played : c.play_all.new.self ≡ after_events c.loop-placed.order c.in-Some.placed.now.frame.events = c.in_ok-event.ensures.played none ∙ ap (after_events c.loop-placed.order) c.events.ensures.value in
    record {
      found = c.loop-placed.invariant.found ∙ ap (λ l. unlawful_from c.loop-placed.closed c.loop-placed.order (placed_in l)) is
          ∙ frame_passes c.loop-placed.closed c.loop-placed.order c.play_all.new.self (placed_of c.in-Some.placed.now) (placed_in c.in-Some.later.now) found played
          ∙ ap (λ e. unlawful_from e c.play_all.new.self (placed_in c.in-Some.later.now)) (sym c.epoch-closed.ensures.value);
      list = c.loop-placed.invariant.list ∙ ap (λ l. after_events c.loop-placed.order (events_of_all l)) is
          ∙ frame_events c.loop-placed.order c.play_all.new.self c.in-Some.placed.now.frame (frames_of c.in-Some.later.now) played;
    }

pub returns-in_default-clause-lawful : goal.returns-in_default-clause-lawful
returns-in_default-clause-lawful c =
    let is : c.loop-placed.rest.now ≡ [] = nil_from_length c.loop-placed.rest.now c.in_default.ensures.cases in
    unlawful_is _ ∙ c.loop-placed.invariant.found ∙ ap (λ l. unlawful_from c.loop-placed.closed c.loop-placed.order (placed_in l)) is
