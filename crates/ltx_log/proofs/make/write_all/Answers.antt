use Rattle.std.proofs.Common.{◌∷◌, [], ◌≤◌, length}
use Rattle.ltx_outside.specs.Contents.{overwritten}
use Rattle.ltx_log.specs.Making.{IsShut}
use Rattle.ltx_log.proofs.Moments.{told_next}
use Rattle.ltx_log.proofs.Makes.{short_image, then_shut, step_since, steps_since}
use Rattle.ltx_log.proofs.make.write_all.Goals as goal

pub write_header-requires-clause-shut : goal.write_header-requires-clause-shut
write_header-requires-clause-shut g c = told_next (λ bytes. length bytes ≤ 1) IsShut (overwritten 0 (0 ∷ [])) _ _ then_shut c.requires.short c.in-Ok.ensures.bytes c.settle.ensures.untold

pub returns-in-Ok-clause-since : goal.returns-in-Ok-clause-since
returns-in-Ok-clause-since g c = steps_since (λ bytes. length bytes ≤ 1) 0 (0 ∷ []) short_image _ _ _ _ _ c.requires.short c.in-Ok.ensures.bytes c.settle.ensures.since c.write_header.ensures.since

pub returns-in-Err-clause-since : goal.returns-in-Err-clause-since
returns-in-Err-clause-since g c = step_since (λ bytes. length bytes ≤ 1) 0 (0 ∷ []) short_image _ _ _ c.requires.short c.settle.ensures.since
