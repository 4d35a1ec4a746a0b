use Rattle.std.proofs.Common.{◌≡◌, ◌≤◌, ℕ, ◌++◌, length, drop}
use Rattle.ltx_model.specs.Keys.{IsRising}
use Rattle.ltx_buffer.specs.Own.{cell_in, rows_under}
use Rattle.ltx_buffer.specs.Places.{key_in}
use Rattle.ltx_buffer.proofs.merge.merge.Given as goal

-- what is merged so far, and the rows that are left under the writes that are left, give the whole
abbrev pub invariant-loop-row : goal.invariant-loop-row
invariant-loop-row l = record {
  within : l.at ≤ length l.own;
  whole : (table : ℕ) → IsRising (key_in table) l.fn.own → IsRising (cell_in table) l.fn.rows.items → record {
    rising : IsRising (cell_in table) l.row-iterator.rest.items;
    same : l.merged.items ++ rows_under table l.row-iterator.rest.items (drop l.at l.own) ≡ rows_under table l.fn.rows.items l.fn.own;
  };
}
