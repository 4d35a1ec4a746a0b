use Rattle.std.proofs.Common.{◌≡◌, ◌∙◌, true, arith, rules}
use Rattle.ltx_model.specs.Frames.{Frame}
use Rattle.ltx_model.specs.Contents.{StandsAt}
use Rattle.ltx_log.specs.Readings.{placed_in, IsHead}
use Rattle.ltx_log.proofs.Images.{ok_holds, told_same}
use Rattle.ltx_log.proofs.Leading.{course_goes_on, course_fails, opens}
use Rattle.ltx_log.proofs.read.read_frames.Goals as goal

pub returns-in-Ok-None-clause-cause : goal.returns-in-Ok-None-clause-cause
returns-in-Ok-None-clause-cause g c =
    let found = rw c.in-Ok-None.field-0-is at c.in-Ok-None.ensures.frame in
    let none = told_same (λ bytes. (f : Frame) → StandsAt bytes c.frames.course.gate c.frames.course.epoch f → ⊥) _ _ (c.head_at.ensures.kept ∙ c.frames.invariant.kept) found in
    let head = told_same (λ bytes. IsHead bytes c.frames.course.gate c.in-Ok.head) _ _ c.frames.invariant.kept c.in-Ok.ensures.head in
    let is : c.in-Ok.head.is_open ≡ true = search rules in
    course_fails _ (placed_in c.frames.course.frames.items) c.frames.course.gate c.frames.course.epoch c.requires.log c.frames.invariant.course (opens _ c.frames.course.gate c.in-Ok.head is head) none

pub frames-preserved : goal.frames-preserved
frames-preserved g c =
    let frame = rw c.in-Ok-Some.field-0-is at c.in-Ok-Some.ensures.frame in
    let found = told_same (λ bytes. StandsAt bytes c.frames.course.gate c.frames.course.epoch c.in-Ok-Some.found.0) _ _ (c.head_at.ensures.kept ∙ c.frames.invariant.kept) frame in
    let next = rw c.in-Ok-Some.field-0-is at c.in-Ok-Some.ensures.next in
    let frames = ok_holds c.take.result _ _ c.is_err.ensures.value c.if-is_err.false c.take.ensures.frames in
    let gate = ok_holds c.take.result _ _ c.is_err.ensures.value c.if-is_err.false c.take.ensures.gate in
    let epoch = ok_holds c.take.result _ _ c.is_err.ensures.value c.if-is_err.false c.take.ensures.epoch in
    record {
      course = course_goes_on _ (placed_in c.frames.course.frames.items) _ c.frames.course.gate c.take.new.self.gate c.frames.course.epoch c.take.new.self.epoch c.in-Ok-Some.found.0
          c.frames.invariant.course found frames (gate ∙ next.0) epoch;
      limit = omega (arith, gate, next.2);
      within = omega (arith, gate, next.1);
      kept = c.frame_at.ensures.kept ∙ c.head_at.ensures.kept ∙ c.frames.invariant.kept;
      images = c.frame_at.ensures.images ∙ c.head_at.ensures.images ∙ c.frames.invariant.images;
      calm = search rules;
    }
