use Rattle.std.proofs.Common.{◌≡◌, drop, List}
use Rattle.std.specs.List.{find}
use Rattle.ltx_model.specs.declared.writes.Write.{Write}
use Rattle.ltx_forward.specs.Waits.{AreTablesOf, may_read_from}
use Rattle.ltx_forward.proofs.wait.first_reader.Given as goal

-- the live batches so far may not read
abbrev pub invariant-loop-live : goal.invariant-loop-live
invariant-loop-live l = (writes : List Write) → AreTablesOf writes l.written → find (may_read_from l.agenda.list l.p l.number writes) l.lives ≡ find (may_read_from l.agenda.list l.p l.number writes) (drop l.live-index l.lives)
