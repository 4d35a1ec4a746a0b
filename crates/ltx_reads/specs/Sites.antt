-- Where the stamps of kept commits stand.
use Rattle.std.specs.Prelude.{◌≡◌, ℕ, ◌&&◌, Bool, List, map, filter}
use Rattle.std.specs.List.{AllByRecursion}
use Rattle.ltx_model.specs.Keys.{Cell}
use Rattle.ltx_model.specs.Records.{has_written}
use Rattle.ltx_reads.specs.declared.sites.Sites.{Sites}
use Rattle.ltx_reads.specs.Looks.{got, scanned, spanned}
use Rattle.ltx_reads.specs.Merges.{merged}
use Rattle.ltx_reads.specs.Stamped.{Stamped, kept_of, AreRising, AreBelow, IsTied}
use Rattle.ltx_reads.specs.Places.{stamps_at, scans_at, IsStampedBy, MayHaveStamp}

-- the commit wrote the key
abbrev pub wrote : Cell → Stamped → Bool
wrote cell e = has_written cell e.commit

-- a batch wrote the key
abbrev pub batch_wrote : Cell → Stamped → Bool
batch_wrote cell e = e.commit.batch && has_written cell e.commit

-- the commit's stamp was put where it belongs
pub record IsNoted (e : Stamped) (old new : Sites) : Type 0 where
  pub readers : IsStampedBy (λ cell. got cell e) e.stamp (stamps_at old.readers) (stamps_at new.readers)
  pub scanners : IsStampedBy (λ cell. scanned cell e) e.stamp (scans_at old.scanners) (scans_at new.scanners)
  pub writers : IsStampedBy (λ cell. wrote cell e) e.stamp (stamps_at old.writers) (stamps_at new.writers)
  pub batches : IsStampedBy (λ cell. batch_wrote cell e) e.stamp (stamps_at old.batches) (stamps_at new.batches)

-- the stamp may have been put somewhere
pub record MayBeNoted (s : ℕ) (old new : Sites) : Type 0 where
  pub readers : MayHaveStamp s (stamps_at old.readers) (stamps_at new.readers)
  pub scanners : MayHaveStamp s (scans_at old.scanners) (scans_at new.scanners)
  pub writers : MayHaveStamp s (stamps_at old.writers) (stamps_at new.writers)
  pub batches : MayHaveStamp s (stamps_at old.batches) (stamps_at new.batches)

-- Kept commits with rising stamps below the next one. At each key stand the stamps of those that got it and of those that wrote it, and
-- beside them those of the batches; at each table stand those that scanned in it.
pub record AreIndexed (kept : List Stamped) (next : ℕ) (sites : Sites) : Type 0 where
  pub rising : AreRising kept
  pub below : AreBelow next kept
  pub readers : (cell : Cell) → IsTied kept next (got cell) (stamps_at sites.readers cell)
  pub scanners : (cell : Cell) → IsTied kept next (scanned cell) (scans_at sites.scanners cell)
  pub writers : (cell : Cell) → IsTied kept next (wrote cell) (stamps_at sites.writers cell)
  pub batches : (cell : Cell) → IsTied kept next (batch_wrote cell) (stamps_at sites.batches cell)

-- the stamps of the kept commits that got the key, and of those that scanned a range that holds it
abbrev pub lookers_in : List Stamped → Sites → Cell → List ℕ
lookers_in kept sites cell = merged (map (λ e. e.stamp) (kept_of kept (stamps_at sites.readers cell))) (map (λ e. e.stamp) (filter (spanned cell) (kept_of kept (scans_at sites.scanners cell))))
