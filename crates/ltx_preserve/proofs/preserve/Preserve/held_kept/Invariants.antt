use Rattle.std.proofs.Common.{◌≡◌, ◌<◌, ℕ, true, None}
use Rattle.ltx_model.specs.Tables.{has_table}
use Rattle.ltx_model.specs.Holders.{IsHeldBy}
use Rattle.ltx_preserve.proofs.preserve.Preserve.held_kept.Given as goal

abbrev pub invariant-loop-number : goal.invariant-loop-number
invariant-loop-number l = (table : ℕ) → table < l.number → has_table l.tables table ≡ true → IsHeldBy l.self table None
