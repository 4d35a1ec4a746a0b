-- The next key of a table that has a row, from a bound on.
use Rattle.std.specs.Prelude.{◌≡◌, ℕ, Bool, true, List, Some, None, if◌then◌else◌}
use Rattle.std.specs.declared.cmp.Ordering.TheVariants.{Less}
use Rattle.std.specs.Ordering.{is_lt, is_le}
use Rattle.ltx_model.specs.declared.rows.StoredRow.{StoredRow}
use Rattle.ltx_model.specs.Keys.{key_cmp}
use Rattle.ltx_model.specs.StoredRows.{writer_at}

-- whether a key is at least this bound, or above it where strict
abbrev pub reaches : List ℕ → Bool → List ℕ → Bool
reaches from strict key = if strict then is_lt (key_cmp from key) else is_le (key_cmp from key)

-- the least key of the table from the bound on that has a row, and the row's writer
pub record IsNextKey (rows : List StoredRow) (table : ℕ) (from : List ℕ) (strict : Bool) (key : List ℕ) (writer : ℕ) : Type 0 where
  pub within : reaches from strict key ≡ true
  pub written : writer_at rows (record { table = table; key = key }) ≡ Some writer
  pub least : (other : List ℕ) → reaches from strict other ≡ true → key_cmp other key ≡ Less → writer_at rows (record { table = table; key = other }) ≡ None

-- no key of the table from the bound on has a row
abbrev pub HasNoNextKey : List StoredRow → ℕ → List ℕ → Bool → Type 0
HasNoNextKey rows table from strict = (key : List ℕ) → reaches from strict key ≡ true → writer_at rows (record { table = table; key = key }) ≡ None
