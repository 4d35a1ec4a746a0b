use Rattle.std.proofs.Common.{◌≡◌, ◌≤◌, length}
use Rattle.ltx_reads.specs.Places.{scans_at, HasSameStamps}
use Rattle.ltx_reads.proofs.scanners.Scanners.make_tables.Given as goal

abbrev pub invariant-loop-t : goal.invariant-loop-t
invariant-loop-t l = record { wide : l._t ≤ length l.self-inside.tables.items; same : HasSameStamps (scans_at l.fn.self) (scans_at l.self-inside.tables.items) }
