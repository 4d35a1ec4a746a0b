use Rattle.std.proofs.Common.{◌∙◌, ◌∷◌, [], ap, Some}
use Rattle.ltx_model.specs.Contents.{IsUnopened}
use Rattle.ltx_log.proofs.Moments.{ok_map, told_both}
use Rattle.ltx_log.proofs.Makes.{unopened_image, opened_content, step_since}
use Rattle.ltx_log.proofs.make.open_header.Goals as goal

pub returns-clause-made : goal.returns-clause-made
returns-clause-made g c = ok_map c.settle.result _ _ (told_both _ _ _ _ (λ bytes unopened written. written ∙ ap Some (opened_content bytes unopened)) c.requires.unopened) c.settle.ensures.bytes

pub returns-clause-since : goal.returns-clause-since
returns-clause-since g c = step_since IsUnopened 0 (1 ∷ []) unopened_image _ _ _ c.requires.unopened c.settle.ensures.since
