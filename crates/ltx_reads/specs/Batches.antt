-- The kept batches that wrote a key late.
use Rattle.std.specs.Prelude.{ℕ, Bool, ◌&&◌, List, map, filter, nat_lt}
use Rattle.ltx_model.specs.Keys.{Cell}
use Rattle.ltx_model.specs.Records.{Recorded, Records, has_written}

-- a batch that wrote the key, and whose commit has a number above this one
abbrev pub is_late_batch : Cell → ℕ → Recorded → Bool
is_late_batch cell above r = r.batch && (nat_lt above r.mark && has_written cell r)

-- the kept batches that wrote the key and whose commits have numbers above this one, in the order of commits
abbrev pub late_batches : Records → Cell → ℕ → List ℕ
late_batches records cell above = map (λ r. r.number) (filter (is_late_batch cell above) records.kept)
