use Rattle.std.proofs.Common.{rules}
use Rattle.ltx_log.specs.Readings.{placed_in}
use Rattle.ltx_report.specs.Findings.{GivesFrames}
use Rattle.ltx_report.proofs.OneFinding.{told_gives, told_only}
use Rattle.ltx_report.proofs.read.recover_log.Goals as goal

pub returns-in-Ok-found_in-clause-found : goal.returns-in-Ok-found_in-clause-found
returns-in-Ok-found_in-clause-found g c =
    let gives : GivesFrames (placed_in c.in-Ok.image.frames.items) c.in-Ok-found_in.found = rw c.deref.ensures.value at c.in-Ok-found_in.ensures.gives in
    told_gives _ c.in-Ok.image.blank (placed_in c.in-Ok.image.frames.items) c.in-Ok.image.gate c.in-Ok-found_in.found c.in-Ok.ensures.read gives

pub returns-in-Ok-found_in-clause-only : goal.returns-in-Ok-found_in-clause-only
returns-in-Ok-found_in-clause-only g c = told_only _ _ (returns-in-Ok-found_in-clause-found g c)

pub returns-in-Err-Damaged-clause-only : goal.returns-in-Err-Damaged-clause-only
returns-in-Err-Damaged-clause-only g c = told_only _ _ (search rules)
