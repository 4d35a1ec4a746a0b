use Rattle.std.proofs.Common.{◌≡◌, ◌<◌, ℕ, true, false, slice_index_or, None}
use Rattle.ltx_model.specs.Tables.{has_table}
use Rattle.ltx_preserve.specs.Kept.{IsKept}
use Rattle.ltx_preserve.proofs.preserve.refresh.Given as goal

abbrev pub invariant-loop-number : goal.invariant-loop-number
invariant-loop-number l =
    ((table : ℕ) → table < l.number → table < 64 → has_table l.tables table ≡ true → IsKept l.entered table (slice_index_or l.least table None))
    × ((table : ℕ) → table < 64 → has_table l.tables table ≡ false → slice_index_or l.least table None ≡ slice_index_or l.fn.least table None)
