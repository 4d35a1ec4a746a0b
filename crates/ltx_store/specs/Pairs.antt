-- A table after a change of one key.
use Rattle.std.specs.Prelude.{◌≡◌, ℕ, ◌<◌, ◌≤◌, List, [], ◌∷◌}
use Rattle.ltx_index.specs.Pairs.{value_at, with_pair}
use Rattle.ltx_chain.specs.declared.chain.Version.{Version}
use Rattle.ltx_chain.specs.Versions.{Versions}
use Rattle.ltx_store.specs.Kept.{items_of, room_of}

-- there is room at the key, and its versions and the other keys are as before
pub record IsRoomMade (old new : List (List ℕ × Versions)) (key : List ℕ) : Type 0 where
  pub versions : Versions
  pub put : new ≡ with_pair old key versions
  pub items : versions.items ≡ items_of (value_at old key)
  pub made : 0 < versions.room
  pub kept : room_of (value_at old key) ≤ versions.room

-- the version is the key's only one, and the other keys are as before
pub record IsLoaded (old new : List (List ℕ × Versions)) (key : List ℕ) (version : Version) : Type 0 where
  pub versions : Versions
  pub put : new ≡ with_pair old key versions
  pub items : versions.items ≡ version ∷ []
