use Rattle.ltx_core.proofs.InstallsUnless.{AreLeft}
use Rattle.ltx_core.proofs.install.install_unless_later.Given as goal

-- the writes that are left are yet to be looked at
abbrev pub invariant-loop-write : goal.invariant-loop-write
invariant-loop-write l = AreLeft l.agenda.list l.initial.store l.store l.writer l.mark l.fn.writes.items l.write-iterator.rest.items
