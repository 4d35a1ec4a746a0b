use Rattle.ltx_core.proofs.Installed.{IsLeft}
use Rattle.ltx_core.proofs.install.install.Given as goal

-- the writes that are left are yet to be installed
abbrev pub invariant-loop-write : goal.invariant-loop-write
invariant-loop-write l = IsLeft l.initial.store l.store l.writer l.mark l.fn.writes.items l.write-iterator.rest.items
