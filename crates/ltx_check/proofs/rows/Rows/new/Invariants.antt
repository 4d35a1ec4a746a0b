use Rattle.std.proofs.Common.{◌≡◌, length, []}
use Rattle.std.specs.List.{AllByRecursion}
use Rattle.ltx_check.proofs.rows.Rows.new.Given as goal

-- as many empty tables as were counted
abbrev pub invariant-loop-t : goal.invariant-loop-t
invariant-loop-t l = record { count : length l.tables.items ≡ l._t; empty : AllByRecursion (λ pairs. pairs ≡ []) l.tables.items }
