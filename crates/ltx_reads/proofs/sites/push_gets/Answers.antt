use Rattle.std.proofs.Common.{◌<◌, length, arith}
use Rattle.ltx_reads.specs.Looks.{note_gets}
use Rattle.ltx_reads.specs.Places.{stamps_at}
use Rattle.ltx_reads.proofs.Indexed.{stamped_more}
use Rattle.ltx_reads.proofs.sites.push_gets.Goals as goal

pub loop-note-preserved : goal.loop-note-preserved
loop-note-preserved c =
    let within : c.loop-note.note-index < length c.args.notes.now = omega arith in
    stamped_more note_gets c.args.stamp c.args.notes.now c.loop-note.note-index c.note-item.result (stamps_at c.args.places.now) _ _ within c.note-item.is c.loop-note.invariant c.in_ok-push_get.ensures.stamped
