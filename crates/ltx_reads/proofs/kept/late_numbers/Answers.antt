use Rattle.std.proofs.Common.{◌≡◌, ◌<◌, List, [], ◌++◌, map, length, ap, ◌∙◌, arith}
use Rattle.std.specs.List.{cons_option}
use Rattle.ltx_reads.specs.Stamped.{Stamped, if_late}
use Rattle.ltx_reads.proofs.Commits.{late_step}
use Rattle.ltx_reads.proofs.kept.late_numbers.Goals as goal

pub loop-stamp-preserved : goal.loop-stamp-preserved
loop-stamp-preserved c =
    let within : c.loop-stamp.stamp-index < length c.args.stamps.now = omega arith in
    late_step c.args.above c.args.kept.now c.args.stamps.now c.loop-stamp.stamp-index c.loop-stamp.found.items _ within c.loop-stamp.invariant (c.in_ok-push_number.ensures ∙ ap (λ o. c.loop-stamp.found.items ++ map (λ (e : Stamped). e.commit.number) (cons_option o [])) (c.late.ensures ∙ ap (if_late c.args.above) c.at.ensures))
