-- The writes of a commit in the store.
use Rattle.std.specs.Prelude.{◌≡◌, ℕ, ◌<◌, nat_lt, List, [], ◌∷◌, ◌++◌, filter, Option, Some, None, option_map}
use Rattle.std.specs.List.{AllByRecursion}
use Rattle.ltx_model.specs.declared.writes.Write.{Write}
use Rattle.ltx_model.specs.Keys.{Cell}
use Rattle.ltx_model.specs.Decisions.{is_installed}
use Rattle.ltx_model.specs.Listings.{is_member}
use Rattle.ltx_model.specs.Operations.{cell_of_write}
use Rattle.ltx_model.specs.Rows.{rows_after_writes}
use Rattle.ltx_buffer.specs.Own.{write_at}
use Rattle.ltx_chain.specs.declared.chain.Version.{Version}
use Rattle.ltx_chain.specs.Versions.{latest}
use Rattle.ltx_store.specs.Kept.{Kept, versions_at, rows_at, latest_rows}

-- the version that a commit's write makes of its key
abbrev pub version_by : ℕ → ℕ → Option Write → List Version
version_by writer mark None = []
version_by writer mark (Some w) = record { writer = writer; mark = mark; put = w.put } ∷ []

-- The writes of a commit are installed: of each key that it wrote there is one version more, the latest rows have the writes, and the
-- rows at earlier marks are as before.
pub record HasInstalled (old new : List Kept) (writer mark : ℕ) (writes : List Write) : Type 0 where
  pub rows : latest_rows new ≡ rows_after_writes writer (latest_rows old) writes
  pub before : (m : ℕ) → m < mark → rows_at m new ≡ rows_at m old
  pub versions : (cell : Cell) → versions_at new cell ≡ versions_at old cell ++ version_by writer mark (write_at writes cell)

-- the writer of a key's last version, where the key has one
abbrev pub last_writer : List Kept → Cell → Option ℕ
last_writer kept cell = option_map (λ v. v.writer) (latest (versions_at kept cell))

-- of a commit's writes those that are installed: the others are of keys whose last version was written by a later member of the agenda
abbrev pub installed_writes : List ℕ → List Kept → ℕ → List Write → List Write
installed_writes list kept writer writes = filter (λ w. is_installed list (last_writer kept (cell_of_write w)) writer) writes

-- The writes of a commit are installed, but for those of keys whose last version was written by a later member of the agenda.
abbrev pub HasInstalledUnless : List ℕ → List Kept → List Kept → ℕ → ℕ → List Write → Type 0
HasInstalledUnless list old new writer mark writes = HasInstalled old new writer mark (installed_writes list old writer writes)

-- who wrote a version is a member of the agenda, unless the version is a row of the base, whose mark is 0
abbrev pub AreByMembers : List ℕ → List Version → Type 0
AreByMembers list versions = AllByRecursion (λ v. is_member list v.writer ≡ nat_lt 0 v.mark) versions
