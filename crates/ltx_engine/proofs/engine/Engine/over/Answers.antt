use Rattle.std.proofs.Common.{sym, subst}
use Rattle.std.specs.Prelude.{IfSome}
use Rattle.ltx_log.specs.Readings.{placed_in}
use Rattle.ltx_log.specs.Running.{IsLogTo}
use Rattle.ltx_log.specs.Images.{IsStill}
use Rattle.ltx_engine.specs.Openings.{Found}
use Rattle.ltx_engine.proofs.Recoveries.{over_stands, over_runs, over_images}
use Rattle.ltx_engine.proofs.engine.Engine.over.Goals as goal

pub invariant_of-result : goal.invariant_of-result
invariant_of-result g c =
    let f : Found = record { core = c.opening.inside.core; frames = placed_in c.opening.inside.course.frames.items; gate = c.opening.inside.course.gate; epoch = c.opening.inside.course.epoch } in
    let content : IfSome c.over.result.content (λ bytes. IsLogTo bytes f.frames f.gate f.epoch) =
    subst (λ o. IfSome o (λ bytes. IsLogTo bytes f.frames f.gate f.epoch)) (sym c.over.ensures.content) (rw (← c.opening.view_is) at c.requires.log) in
    over_runs f c.over.result c.opening.invariant c.over.ensures.gate c.over.ensures.last content
    (subst (λ o. IsStill o c.over.result.crashes) (sym c.over.ensures.content) (subst (λ x. IsStill (g.D.Disk.content c.args.disk.now) x) (sym c.over.ensures.crashes) c.requires.still))

pub returns-clause-stands : goal.returns-clause-stands
returns-clause-stands g c =
    let f : Found = record { core = c.opening.inside.core; frames = placed_in c.opening.inside.course.frames.items; gate = c.opening.inside.course.gate; epoch = c.opening.inside.course.epoch } in
    let content : IfSome c.over.result.content (λ bytes. IsLogTo bytes f.frames f.gate f.epoch) =
    subst (λ o. IfSome o (λ bytes. IsLogTo bytes f.frames f.gate f.epoch)) (sym c.over.ensures.content) (rw (← c.opening.view_is) at c.requires.log) in
    rw (← c.opening.view_is) (over_stands f c.over.result c.opening.invariant c.over.ensures.gate c.over.ensures.last content)

pub returns-clause-images : goal.returns-clause-images
returns-clause-images g c =
    let f : Found = record { core = c.opening.inside.core; frames = placed_in c.opening.inside.course.frames.items; gate = c.opening.inside.course.gate; epoch = c.opening.inside.course.epoch } in
    let content : IfSome c.over.result.content (λ bytes. IsLogTo bytes f.frames f.gate f.epoch) =
    subst (λ o. IfSome o (λ bytes. IsLogTo bytes f.frames f.gate f.epoch)) (sym c.over.ensures.content) (rw (← c.opening.view_is) at c.requires.log) in
    let still : IsStill c.over.result.content c.over.result.crashes =
    subst (λ o. IsStill o c.over.result.crashes) (sym c.over.ensures.content) (subst (λ x. IsStill (g.D.Disk.content c.args.disk.now) x) (sym c.over.ensures.crashes) c.requires.still) in
    rw (← c.opening.view_is) (over_images f c.over.result c.opening.invariant c.over.ensures.gate c.over.ensures.last content still)
