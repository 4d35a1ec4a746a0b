-- Rows kept table by table, as pairs of a key and a value.
use Rattle.std.specs.Prelude.{◌≡◌, ◌<◌, ℕ, ◌==◌, List, [], map, filter, get_or, Option, Some, None}
use Rattle.ltx_model.specs.declared.replies.Reply.{Reply}
use Rattle.ltx_model.specs.declared.replies.Reply.TheVariants as replies
use Rattle.ltx_model.specs.declared.rows.Row.{Row}
use Rattle.ltx_model.specs.declared.rows.StoredRow.{StoredRow}
use Rattle.ltx_model.specs.Keys.{IsRising, in_range, is_below_end}
use Rattle.ltx_model.specs.StoredRows.{cell_of}

-- keys, each with its value
abbrev pub Pairs : Type 0
Pairs = List (List ℕ × List ℕ)

-- a row's key and its value
abbrev pub pair_of : StoredRow → List ℕ × List ℕ
pair_of row = (row.key, row.value)

-- the pairs of a table's rows
abbrev pub pairs_in : ℕ → List StoredRow → Pairs
pairs_in table rows = map pair_of (filter (λ row. row.table == table) rows)

-- a pair as a scan answers it
abbrev pub row_of_pair : List ℕ × List ℕ → Row
row_of_pair pair = record { key = pair.0; value = pair.1 }

-- the pairs below the upper end of a range
abbrev pub under : List ℕ → Pairs → Pairs
under high pairs = filter (λ pair. is_below_end high pair.0) pairs

-- the pairs of a range
abbrev pub between : List ℕ → List ℕ → Pairs → Pairs
between low high pairs = filter (λ pair. in_range low high pair.0) pairs

-- The tables hold these rows, which stand in rising order.
pub record AreRows (tables : List Pairs) (rows : List StoredRow) : Type 0 where
  pub rising : IsRising cell_of rows
  pub each : (table : ℕ) → table < 64 → get_or tables table [] ≡ pairs_in table rows

-- the reply to a get, by the value of its key
abbrev pub found_value : Option (List ℕ) → Reply
found_value None = replies.Absent
found_value (Some value) = replies.Found value

-- the rows of a range as a scan answers them
abbrev pub rows_between_pairs : List ℕ → List ℕ → Pairs → List Row
rows_between_pairs low high pairs = map row_of_pair (between low high pairs)
