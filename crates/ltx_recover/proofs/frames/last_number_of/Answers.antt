use Rattle.std.proofs.Common.{◌≡◌, ◌∷◌, max, ap, sym, ◌∙◌, rules}
use Rattle.ltx_model.specs.Recovery.{greatest_number}
use Rattle.ltx_recover.specs.Frames.{frames_of, events_of_all}
use Rattle.ltx_recover.proofs.Unlawful.{greatest_next}
use Rattle.ltx_recover.proofs.frames.last_number_of.Goals as goal

pub loop-placed-preserved : goal.loop-placed-preserved
loop-placed-preserved c =
    let is : c.loop-placed.rest.now ≡ c.in-Some.placed.now ∷ c.in-Some.later.now = search rules in
    let value : c.greatest_of-last.result ≡ max c.loop-placed.last (greatest_number c.in-Some.placed.now.frame.events) = c.greatest_of-last.ensures.value ∙ ap (λ es. max c.loop-placed.last (greatest_number es)) c.events.ensures.value in
    record {
      greatest = greatest_next c.loop-placed.last c.greatest_of-last.result c.in-Some.placed.now.frame (frames_of c.in-Some.later.now) value ∙ ap (λ l. max c.loop-placed.last (greatest_number (events_of_all l))) (sym is) ∙ c.loop-placed.invariant.greatest;
      within = c.greatest_of-last.ensures.within;
    }
