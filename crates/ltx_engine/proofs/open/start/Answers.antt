use Rattle.std.proofs.Common.{[], ℕ}
use Rattle.ltx_model.specs.Contents.{frames_in}
use Rattle.ltx_model.specs.Recovery.{AreLawfulFrames, recovered, IsRecovered}
use Rattle.ltx_recover.specs.Frames.{frames_of, IsBaseOf}
use Rattle.ltx_log.specs.Readings.{placed_in}
use Rattle.ltx_log.specs.Running.{IsOpenedAs}
use Rattle.ltx_log.proofs.Moments.{told_map}
use Rattle.ltx_engine.proofs.Recoveries.{since_alike, opened_recovers, is_found}
use Rattle.ltx_engine.proofs.open.start.Goals as goal

pub returns-in-Err-clause-since : goal.returns-in-Err-clause-since
returns-in-Err-clause-since g c = λ still. since_alike _ _ _ (c.start.ensures.since still)

pub returns-in-Err-recover-clause-since : goal.returns-in-Err-recover-clause-since
returns-in-Err-recover-clause-since g c = λ still. since_alike _ _ _ (c.start.ensures.since still)

pub returns-in-Err-core_over-clause-since : goal.returns-in-Err-core_over-clause-since
returns-in-Err-core_over-clause-since g c = λ still. since_alike _ _ _ (c.start.ensures.since still)

pub returns-clause-since : goal.returns-clause-since
returns-clause-since g c = λ still. since_alike _ _ _ (c.start.ensures.since still)

pub invariant_of-result : goal.invariant_of-result
invariant_of-result g c =
    let gives : (gate : ℕ) → IsBaseOf c.in-Ok-recover.base (recovered (frames_of c.in-Ok.course.frames.items) gate) = rw c.deref.ensures.value at c.in-Ok-recover.ensures.recovered in
    let lawful : AreLawfulFrames 0 [] (frames_of c.in-Ok.course.frames.items) = rw c.deref.ensures.value at c.in-Ok-recover.ensures.lawful in
    is_found c.in-Ok-recover.base c.in-Ok-core_over.core (placed_in c.in-Ok.course.frames.items) c.in-Ok.course.gate c.in-Ok.course.epoch c.core_over.ensures.kept c.in-Ok-core_over.ensures.stands
    (gives c.in-Ok.course.gate) lawful c.in-Ok.ensures.epoch c.in-Ok.ensures.limit

pub returns-clause-recovered : goal.returns-clause-recovered
returns-clause-recovered g c =
    let lawful : AreLawfulFrames 0 [] (frames_of c.in-Ok.course.frames.items) = rw c.deref.ensures.value at c.in-Ok-recover.ensures.lawful in
    told_map (λ bytes. IsOpenedAs bytes (placed_in c.in-Ok.course.frames.items) c.in-Ok.course.gate)
    (λ bytes. IsRecovered bytes (recovered (frames_in (placed_in c.in-Ok.course.frames.items)) c.in-Ok.course.gate)) _
    (λ bytes opened. opened_recovers bytes (placed_in c.in-Ok.course.frames.items) c.in-Ok.course.gate lawful opened) c.in-Ok.ensures.read
