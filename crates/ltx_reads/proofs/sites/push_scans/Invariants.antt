use Rattle.std.proofs.Common.{take}
use Rattle.std.specs.List.{list_any}
use Rattle.ltx_reads.specs.Looks.{note_scans}
use Rattle.ltx_reads.specs.Places.{scans_at, IsStampedBy}
use Rattle.ltx_reads.proofs.sites.push_scans.Given as goal

abbrev pub invariant-loop-note : goal.invariant-loop-note
invariant-loop-note l = IsStampedBy (λ cell. list_any (note_scans cell) (take l.note-index l.notes)) l.stamp (scans_at l.fn.scanners) (scans_at l.scanners)
