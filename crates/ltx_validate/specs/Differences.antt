-- What a note asks of its keys, and the least key with another writer now.
use Rattle.std.specs.Prelude.{◌≡◌, ◌≢◌, ℕ, true, List, Option, Some, None}
use Rattle.std.specs.List.{AllByRecursion}
use Rattle.std.specs.List.Sorted.{IsStrictlySortedBy}
use Rattle.std.specs.declared.cmp.Ordering.TheVariants.{Less}
use Rattle.ltx_model.specs.declared.rows.StoredRow.{StoredRow}
use Rattle.ltx_model.specs.declared.writes.Look.{Look}
use Rattle.ltx_model.specs.declared.looked.Reach.{Reach}
use Rattle.ltx_model.specs.declared.looked.Reach.TheVariants.{Nothing, Point, Range}
use Rattle.ltx_model.specs.Keys.{Cell, key_cmp, in_range}
use Rattle.ltx_model.specs.StoredRows.{writer_at}
use Rattle.ltx_model.specs.Notes.{asks, found_at}
use Rattle.ltx_validate.specs.declared.difference.Difference.{Difference}

-- a key of a table
abbrev pub at : ℕ → List ℕ → Cell
at table key = record { table = table; key = key }

-- looks rise by their keys
abbrev pub AreRisingLooks : List Look → Type 0
AreRisingLooks looks = IsStrictlySortedBy (λ a b. key_cmp a.key b.key) looks

-- the lists of a range stand in the order of their keys, and its looks are of its keys
abbrev pub IsOrdered : Reach → Type 0
IsOrdered Nothing = Unit {0}
IsOrdered (Point key look own) = Unit {0}
IsOrdered (Range low high looks own) = AreRisingLooks looks × AllByRecursion (λ look. in_range low high look.key ≡ true) looks × IsStrictlySortedBy key_cmp own

-- the key has the writer in these rows that the reach notes
abbrev pub IsSame : List StoredRow → ℕ → Reach → List ℕ → Type 0
IsSame rows table reach key = asks reach key ≡ true → found_at reach key ≡ writer_at rows (at table key)

-- a key that the reach looked up has another writer in these rows, and no lesser one has
pub record IsLeastDifference (rows : List StoredRow) (table : ℕ) (reach : Reach) (d : Difference) : Type 0 where
  pub asked : asks reach d.key ≡ true
  pub found : found_at reach d.key ≡ d.found
  pub current : writer_at rows (at table d.key) ≡ d.current
  pub differ : d.found ≢ d.current
  pub least : (key : List ℕ) → key_cmp key d.key ≡ Less → IsSame rows table reach key

-- the least difference, or that there is none
abbrev pub Tells : List StoredRow → ℕ → Reach → Option Difference → Type 0
Tells rows table reach None = (key : List ℕ) → IsSame rows table reach key
Tells rows table reach (Some d) = IsLeastDifference rows table reach d
