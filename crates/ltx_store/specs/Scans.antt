-- What a scan at a mark finds.
use Rattle.std.specs.Prelude.{ℕ, Bool, ◌==◌, ◌&&◌, List, filter, filter_map, Option, Some, None, is_none, option_map}
use Rattle.ltx_model.specs.declared.rows.Row.{Row}
use Rattle.ltx_model.specs.declared.writes.Look.{Look}
use Rattle.ltx_model.specs.Keys.{in_range}
use Rattle.ltx_chain.specs.declared.chain.Version.{Version}
use Rattle.ltx_chain.specs.Versions.{Versions, visible}
use Rattle.ltx_store.specs.Kept.{Kept}

-- a key of the table, from low on and below high
abbrev pub is_between : ℕ → List ℕ → List ℕ → Kept → Bool
is_between table low high e = (e.table == table) && in_range low high e.key

-- the look of a key where this version is seen: its writer, and whether it deleted the key
abbrev pub look_of_version : List ℕ → Option Version → Option Look
look_of_version key None = None
look_of_version key (Some v) = Some (record { key = key; writer = v.writer; gone = is_none v.put })

abbrev pub look_at : ℕ → Kept → Option Look
look_at mark e = look_of_version e.key (visible mark e.versions.items)

-- of each kept key of the range, deleted ones included, the last writer with at most this mark
abbrev pub looks_between : ℕ → List Kept → ℕ → List ℕ → List ℕ → List Look
looks_between mark kept table low high = filter_map (look_at mark) (filter (is_between table low high) kept)

-- the pairs of a range
abbrev pub between : List ℕ → List ℕ → List (List ℕ × Versions) → List (List ℕ × Versions)
between low high pairs = filter (λ p. in_range low high p.0) pairs

-- the row of a key where this version is seen, if it puts a value
abbrev pub row_of_seen : List ℕ → Option Version → Option Row
row_of_seen key None = None
row_of_seen key (Some v) = option_map (λ value. record { key = key; value = value }) v.put

-- the rows of one table's pairs
abbrev pub rows_seen : ℕ → List (List ℕ × Versions) → List Row
rows_seen mark pairs = filter_map (λ p. row_of_seen p.0 (visible mark p.1.items)) pairs

-- their looks
abbrev pub looks_seen : ℕ → List (List ℕ × Versions) → List Look
looks_seen mark pairs = filter_map (λ p. look_of_version p.0 (visible mark p.1.items)) pairs
