use Rattle.std.proofs.Common.{take}
use Rattle.ltx_reads.specs.Noted.{is_among}
use Rattle.ltx_reads.specs.Places.{stamps_at, IsStampedBy}
use Rattle.ltx_reads.proofs.sites.push_writes.Given as goal

abbrev pub invariant-loop-write : goal.invariant-loop-write
invariant-loop-write l = IsStampedBy (λ cell. is_among cell (take l.write-index l.writes)) l.stamp (stamps_at l.fn.places) (stamps_at l.places)
