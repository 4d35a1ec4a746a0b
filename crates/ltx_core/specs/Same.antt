-- A core that keeps the same; there may be other room.
use Rattle.std.specs.Prelude.{◌≡◌}
use Rattle.ltx_store.specs.Kept.{HasSameVersions}
use Rattle.ltx_open.specs.Same.{AreSameOpens}
use Rattle.ltx_core.specs.Views.{CoreView}
use Rattle.ltx_core.specs.Logged.{IsSameLog}

pub record IsSame (old new : CoreView) : Type 0 where
  pub counters : new.counters ≡ old.counters
  pub list : new.list ≡ old.list
  pub commits : new.commits ≡ old.commits
  pub batch : new.batch ≡ old.batch
  pub store : HasSameVersions old.store new.store
  pub preserve : new.preserve ≡ old.preserve
  pub opens : AreSameOpens old.opens new.opens
  pub records : new.records ≡ old.records
  pub areas : new.areas ≡ old.areas
  pub log : IsSameLog old.log new.log
