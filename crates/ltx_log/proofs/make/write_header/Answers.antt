use Rattle.std.proofs.Common.{◌∷◌, ◌++◌, []}
use Rattle.ltx_model.specs.Contents.{IsUnopened, header}
use Rattle.ltx_outside.specs.Contents.{overwritten}
use Rattle.ltx_log.specs.Making.{IsShut}
use Rattle.ltx_log.proofs.Moments.{told_next}
use Rattle.ltx_log.proofs.Makes.{shut_image, then_unopened, step_since, steps_since}
use Rattle.ltx_log.proofs.make.write_header.Goals as goal

pub open_header-requires-clause-unopened : goal.open_header-requires-clause-unopened
open_header-requires-clause-unopened g c = told_next IsShut IsUnopened (overwritten 1 (header ++ 0 ∷ [])) _ _ then_unopened c.requires.shut c.in-Ok.ensures.bytes c.settle.ensures.untold

pub returns-in-Ok-clause-since : goal.returns-in-Ok-clause-since
returns-in-Ok-clause-since g c = steps_since IsShut 1 (header ++ 0 ∷ []) shut_image _ _ _ _ _ c.requires.shut c.in-Ok.ensures.bytes c.settle.ensures.since c.open_header.ensures.since

pub returns-in-Err-clause-since : goal.returns-in-Err-clause-since
returns-in-Err-clause-since g c = step_since IsShut 1 (header ++ 0 ∷ []) shut_image _ _ _ c.requires.shut c.settle.ensures.since
