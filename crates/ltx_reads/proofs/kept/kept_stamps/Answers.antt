use Rattle.std.proofs.Common.{◌≡◌, ◌<◌, List, [], ◌++◌, map, length, ap, ◌∙◌, arith}
use Rattle.std.specs.List.{cons_option}
use Rattle.ltx_reads.specs.Stamped.{Stamped}
use Rattle.ltx_reads.proofs.Commits.{stamps_step}
use Rattle.ltx_reads.proofs.kept.kept_stamps.Goals as goal

pub loop-stamp-preserved : goal.loop-stamp-preserved
loop-stamp-preserved c =
    let within : c.loop-stamp.stamp-index < length c.args.stamps.now = omega arith in
    stamps_step c.args.kept.now c.args.stamps.now c.loop-stamp.stamp-index c.loop-stamp.found.items _ within c.loop-stamp.invariant (c.in_ok-push_stamp.ensures ∙ ap (λ o. c.loop-stamp.found.items ++ map (λ (e : Stamped). e.stamp) (cons_option o [])) c.at.ensures)
