use Rattle.std.proofs.Common.{take}
use Rattle.ltx_forward.specs.Waits.{AreTablesOf}
use Rattle.ltx_forward.proofs.wait.tables_of.Given as goal

-- the tables of the writes so far
abbrev pub invariant-loop-write : goal.invariant-loop-write
invariant-loop-write l = AreTablesOf (take l.write-index l.writes) l.tables
