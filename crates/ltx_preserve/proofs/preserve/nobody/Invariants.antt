use Rattle.std.proofs.Common.{◌≡◌, ◌<◌, ℕ, slice_index_or, None}
use Rattle.ltx_preserve.proofs.preserve.nobody.Given as goal

abbrev pub invariant-loop-table : goal.invariant-loop-table
invariant-loop-table l = (t : ℕ) → t < l.table → slice_index_or l.least t None ≡ None
