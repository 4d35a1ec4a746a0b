use Rattle.std.proofs.Common.{take}
use Rattle.std.specs.List.{list_any}
use Rattle.ltx_reads.specs.Looks.{note_gets}
use Rattle.ltx_reads.specs.Places.{stamps_at, IsStampedBy}
use Rattle.ltx_reads.proofs.sites.push_gets.Given as goal

abbrev pub invariant-loop-note : goal.invariant-loop-note
invariant-loop-note l = IsStampedBy (λ cell. list_any (note_gets cell) (take l.note-index l.notes)) l.stamp (stamps_at l.fn.places) (stamps_at l.places)
