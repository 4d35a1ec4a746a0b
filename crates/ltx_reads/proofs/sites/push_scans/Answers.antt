use Rattle.std.proofs.Common.{◌<◌, length, arith}
use Rattle.ltx_reads.specs.Looks.{note_scans}
use Rattle.ltx_reads.specs.Places.{scans_at}
use Rattle.ltx_reads.proofs.Indexed.{stamped_more}
use Rattle.ltx_reads.proofs.sites.push_scans.Goals as goal

pub loop-note-preserved : goal.loop-note-preserved
loop-note-preserved c =
    let within : c.loop-note.note-index < length c.args.notes.now = omega arith in
    stamped_more note_scans c.args.stamp c.args.notes.now c.loop-note.note-index c.note-item.result (scans_at c.args.scanners.now) _ _ within c.note-item.is c.loop-note.invariant c.in_ok-push_scan.ensures.stamped
