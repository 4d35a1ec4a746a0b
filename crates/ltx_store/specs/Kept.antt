-- What the store keeps, and the rows that it has at a mark.
use Rattle.std.specs.Prelude.{◌≡◌, ℕ, ◌≤◌, false, ◌+◌, ◌-◌, List, [], ◌∷◌, ◌++◌, map, filter_map, Option, Some, None, option_map, length}
use Rattle.std.specs.List.{AllByRecursion, find}
use Rattle.ltx_model.specs.declared.rows.StoredRow.{StoredRow}
use Rattle.ltx_model.specs.Keys.{Cell, same_cell, put_in_order}
use Rattle.ltx_model.specs.StoredRows.{cell_of}
use Rattle.ltx_model.specs.Rows.{without}
use Rattle.ltx_model.specs.declared.writes.Write.{Write}
use Rattle.ltx_model.specs.Operations.{cell_of_write}
use Rattle.ltx_index.specs.Pairs.{IsInOrder}
use Rattle.ltx_chain.specs.declared.chain.Version.{Version}
use Rattle.ltx_chain.specs.Versions.{Versions, latest, visible}

-- a key of a table, and its versions
pub record Kept : Type 0 where
  pub table : ℕ
  pub key : List ℕ
  pub versions : Versions

abbrev pub cell_of_kept : Kept → Cell
cell_of_kept e = record { table = e.table; key = e.key }

-- the key with its versions, where one is kept
abbrev pub kept_at : List Kept → Cell → Option Kept
kept_at kept cell = find (λ e. same_cell (cell_of_kept e) cell) kept

-- a key's versions, where the key is kept
abbrev pub chain_at : List Kept → Cell → Option Versions
chain_at kept cell = option_map (λ e. e.versions) (kept_at kept cell)

abbrev pub items_of : Option Versions → List Version
items_of None = []
items_of (Some versions) = versions.items

abbrev pub room_of : Option Versions → ℕ
room_of None = 0
room_of (Some versions) = versions.room

-- the versions with one more, which takes one place of their room
abbrev pub installed : Option Versions → Version → Versions
installed o v = record { items = items_of o ++ v ∷ []; room = room_of o - 1 }

-- the versions of a key: none where it is not kept
abbrev pub versions_at : List Kept → Cell → List Version
versions_at kept cell = items_of (chain_at kept cell)

-- how many more versions of a key can be installed without taking memory
abbrev pub room_at : List Kept → Cell → ℕ
room_at kept cell = room_of (chain_at kept cell)

-- the row that a write makes, where it puts a value
abbrev pub row_put : Cell → ℕ → Option (List ℕ) → Option StoredRow
row_put cell writer None = None
row_put cell writer (Some value) = Some (record { table = cell.table; key = cell.key; value = value; writer = writer })

-- the row of a key where this version is seen
abbrev pub row_of_version : Cell → Option Version → Option StoredRow
row_of_version cell None = None
row_of_version cell (Some v) = row_put cell v.writer v.put

-- the row of a key, by what is seen of its versions
abbrev pub row_by : (List Version → Option Version) → Kept → Option StoredRow
row_by see e = row_of_version (cell_of_kept e) (see e.versions.items)

abbrev pub rows_by : (List Version → Option Version) → List Kept → List StoredRow
rows_by see kept = filter_map (row_by see) kept

-- the rows at a mark: of each key the last version with at most that mark, where it puts a value
abbrev pub rows_at : ℕ → List Kept → List StoredRow
rows_at mark kept = rows_by (visible mark) kept

-- the rows at the newest mark
abbrev pub latest_rows : List Kept → List StoredRow
latest_rows kept = rows_by latest kept

-- the rows with this one in its place, or without a row of the key where it is none
abbrev pub rows_with : Cell → Option StoredRow → List StoredRow → List StoredRow
rows_with cell None rows = without rows cell
rows_with cell (Some row) rows = put_in_order cell_of row rows

-- what a write by this transaction makes of its key's row
abbrev pub row_of_write : ℕ → Write → Option StoredRow
row_of_write writer w = row_put (cell_of_write w) writer w.put

-- what is kept after this version of a key was added
abbrev pub with_version : ℕ → ℕ → Write → List Kept → List Kept
with_version writer mark w kept =
    put_in_order cell_of_kept (record { table = w.table; key = w.key; versions = installed (chain_at kept (cell_of_write w)) (record { writer = writer; mark = mark; put = w.put }) }) kept

-- no version has a mark above that of its table
abbrev pub AreUpToEach : (ℕ → ℕ) → List Kept → Type 0
AreUpToEach limit kept = AllByRecursion (λ e. AllByRecursion (λ v. v.mark ≤ limit e.table) e.versions.items) kept

-- no version has a mark above this one
abbrev pub AreUpTo : ℕ → List Kept → Type 0
AreUpTo mark kept = AllByRecursion (λ e. AllByRecursion (λ v. v.mark ≤ mark) e.versions.items) kept

-- The versions of each key are as before, and so are the rows at each mark; there may be more room.
pub record HasSameVersions (old new : List Kept) : Type 0 where
  pub versions : (cell : Cell) → versions_at new cell ≡ versions_at old cell
  pub room : (cell : Cell) → room_at old cell ≤ room_at new cell
  pub rows : (mark : ℕ) → rows_at mark new ≡ rows_at mark old
  pub latest : latest_rows new ≡ latest_rows old
  pub marks : (mark : ℕ) → AreUpTo mark old → AreUpTo mark new

-- The base row is its key's only version, with mark 0, and the other keys are as before.
pub record HasLoaded (old new : List Kept) (row : StoredRow) : Type 0 where
  pub here : versions_at new (cell_of row) ≡ (record { writer = row.writer; mark = 0; put = Some row.value }) ∷ []
  pub others : (cell : Cell) → same_cell (cell_of row) cell ≡ false → chain_at new cell ≡ chain_at old cell
  pub rows : (mark : ℕ) → rows_at mark new ≡ put_in_order cell_of row (rows_at mark old)
  pub latest : latest_rows new ≡ put_in_order cell_of row (latest_rows old)
  pub marks : (mark : ℕ) → AreUpTo mark old → AreUpTo mark new

-- the keys of one table
abbrev pub of_table : ℕ → List (List ℕ × Versions) → List Kept
of_table table pairs = map (λ p. record { table = table; key = p.0; versions = p.1 }) pairs

-- the keys of all tables, numbered from this one on
abbrev pub of_tables : ℕ → List (List (List ℕ × Versions)) → List Kept
of_tables table [] = []
of_tables table (pairs ∷ rest) = of_table table pairs ++ of_tables (table + 1) rest

-- the 64 tables, each in the order of its keys
pub record IsTables (tables : List (List (List ℕ × Versions))) : Type 0 where
  pub count : length tables ≡ 64
  pub in_order : AllByRecursion IsInOrder tables
