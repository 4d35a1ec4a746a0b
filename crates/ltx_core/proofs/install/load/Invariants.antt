use Rattle.ltx_core.proofs.Loaded.{IsLoading}
use Rattle.ltx_core.proofs.install.load.Given as goal

-- the rows that are left are yet to be loaded
abbrev pub invariant-loop-row : goal.invariant-loop-row
invariant-loop-row l = IsLoading l.store l.fn.rows l.row-iterator.rest.items
