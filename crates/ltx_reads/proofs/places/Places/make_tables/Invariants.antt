use Rattle.std.proofs.Common.{◌≡◌, ◌≤◌, length}
use Rattle.ltx_reads.specs.Places.{stamps_at, HasSameStamps}
use Rattle.ltx_reads.proofs.places.Places.make_tables.Given as goal

abbrev pub invariant-loop-t : goal.invariant-loop-t
invariant-loop-t l = record { wide : l._t ≤ length l.self-inside.tables.items; same : HasSameStamps (stamps_at l.fn.self) (stamps_at l.self-inside.tables.items) }
