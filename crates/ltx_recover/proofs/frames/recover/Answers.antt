use Rattle.std.proofs.Common.{◌≡◌, [], ap, ◌∙◌}
use Rattle.ltx_model.specs.Restored.{Restored}
use Rattle.ltx_model.specs.Played.{played_list, rows_after_played}
use Rattle.ltx_recover.specs.Frames.{placed_in, frames_of, events_of_all}
use Rattle.ltx_recover.proofs.Bases.{is_restored, is_base, cause_first}
use Rattle.ltx_recover.proofs.Unlawful.{lawful_when_none}
use Rattle.ltx_recover.proofs.frames.recover.Goals as goal

pub returns-in-Err-clause-first : goal.returns-in-Err-clause-first
returns-in-Err-clause-first c = cause_first (placed_in c.args.frames.now) c.in-Err.fault c.in-Err.ensures.cause

pub base_of-requires : goal.base_of-requires
base_of-requires c =
    let rows : c.in_ok-rows.rows ≡ rows_after_played [] (played_list (events_of_all c.args.frames.now)) = c.in_ok-rows.ensures ∙ ap (rows_after_played []) c.in-Ok.ensures.list in
    is_restored _ _ _ (events_of_all c.args.frames.now) rows c.last_number_of.ensures.value c.last_epoch_of.ensures.within c.last_number_of.ensures.within

pub returns-clause-recovered : goal.returns-clause-recovered
returns-clause-recovered c = λ gate.
    let rows : c.in_ok-rows.rows ≡ rows_after_played [] (played_list (events_of_all c.args.frames.now)) = c.in_ok-rows.ensures ∙ ap (rows_after_played []) c.in-Ok.ensures.list in
    is_base c.base_of.result (frames_of c.args.frames.now) gate (ap (λ (b : Restored). b.rows) c.base_of.ensures ∙ rows) (ap (λ (b : Restored). b.epoch) c.base_of.ensures ∙ c.last_epoch_of.ensures.value) (ap (λ (b : Restored). b.last) c.base_of.ensures ∙ c.last_number_of.ensures.value)

pub returns-clause-lawful : goal.returns-clause-lawful
returns-clause-lawful c = lawful_when_none (placed_in c.args.frames.now) c.in-Ok.ensures.lawful
