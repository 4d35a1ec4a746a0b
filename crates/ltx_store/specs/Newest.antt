-- The newest mark of each table's versions, and that of all.
use Rattle.std.specs.Prelude.{ℕ, ◌≤◌, List, slice_index_or}
use Rattle.ltx_chain.specs.Versions.{Versions}
use Rattle.ltx_store.specs.Kept.{AreUpToEach, of_tables, IsTables}

-- the newest mark of a table
abbrev pub newest_of : List ℕ → ℕ → ℕ
newest_of of_table table = slice_index_or of_table table 0

-- The 64 tables, and marks above which no version of a table has one, none of them above that of all.
pub record IsStore (tables : List (List (List ℕ × Versions))) (of_table : List ℕ) (of_all : ℕ) : Type 0 where
  pub tables_are : IsTables tables
  pub marks : AreUpToEach (newest_of of_table) (of_tables 0 tables)
  pub within : (table : ℕ) → newest_of of_table table ≤ of_all
