-- Stamps at keys of tables.
use Rattle.std.specs.Prelude.{◌≡◌, ◌⊎◌, ℕ, Bool, List, [], Option, Some, None, get_or, if◌then◌else◌}
use Rattle.std.specs.Ordering.{is_eq}
use Rattle.ltx_model.specs.Keys.{Cell, key_cmp}
use Rattle.ltx_index.specs.Pairs.{value_at}
use Rattle.ltx_reads.specs.Stamped.{with_stamp}

-- the keys of one table, each with its stamps
abbrev pub Pairs : Type 0
Pairs = List (List ℕ × List ℕ)

abbrev pub or_nothing : Option (List ℕ) → List ℕ
or_nothing None = []
or_nothing (Some stamps) = stamps

-- the stamps at a key of one table
abbrev pub stamps_in : Pairs → List ℕ → List ℕ
stamps_in pairs key = or_nothing (value_at pairs key)

-- a table of these, where one that is not there has no stamps
abbrev pub table_at : List Pairs → ℕ → Pairs
table_at tables t = get_or tables t []

-- the stamps at a key of a table
abbrev pub stamps_at : List Pairs → Cell → List ℕ
stamps_at tables cell = stamps_in (table_at tables cell.table) cell.key

-- the stamp is the last one at this key, and the other keys are as before
abbrev pub IsStampedIn : List ℕ → ℕ → Pairs → Pairs → Type 0
IsStampedIn key s old new = (q : List ℕ) → stamps_in new q ≡ (if is_eq (key_cmp key q) then with_stamp (stamps_in old q) s else stamps_in old q)

-- the stamps of a table that scanned it
abbrev pub scans_at : List (List ℕ) → Cell → List ℕ
scans_at tables cell = get_or tables cell.table []

-- the stamp is the last one at each key that passes the test, and the other keys are as before
abbrev pub IsStampedBy : (Cell → Bool) → ℕ → (Cell → List ℕ) → (Cell → List ℕ) → Type 0
IsStampedBy test s old new = (cell : Cell) → new cell ≡ (if test cell then with_stamp (old cell) s else old cell)

-- each key is as before
abbrev pub HasSameStamps : (Cell → List ℕ) → (Cell → List ℕ) → Type 0
HasSameStamps old new = (cell : Cell) → new cell ≡ old cell

-- each key is as before, but for the stamp, which may be the last one
abbrev pub MayHaveStamp : ℕ → (Cell → List ℕ) → (Cell → List ℕ) → Type 0
MayHaveStamp s old new = (cell : Cell) → (new cell ≡ old cell) ⊎ (new cell ≡ with_stamp (old cell) s)
