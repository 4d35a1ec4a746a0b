-- A run of versions with the newest one apart.
use Rattle.std.specs.Prelude.{◌≡◌, ℕ, Bool, false, ◌++◌, List, [], ◌∷◌, Option, Some, None}
use Rattle.ltx_chain.specs.declared.chain.Version.{Version}
use Rattle.std.specs.Global.{Box}
use Rattle.ltx_chain.specs.Versions.{Versions, IsRising, is_at_most}

-- the older versions, and then the newest one, if there is one
abbrev pub all_of : List Version → Option Version → List Version
all_of older None = older
all_of older (Some v) = older ++ v ∷ []

-- where there is no newest one, it has a place
abbrev pub spare_of : Option Version → ℕ
spare_of None = 1
spare_of (Some v) = 0

-- there is a newest one, and it has at most this mark
abbrev pub sees : ℕ → Option Version → Bool
sees mark None = false
sees mark (Some v) = is_at_most mark v

-- marks rise, and without a newest one there are no older ones
abbrev pub IsRun : List Version → Option Version → Type 0
IsRun older None = older ≡ []
IsRun older (Some v) = IsRising (older ++ v ∷ [])

-- the versions behind a chain's pointer
abbrev pub in_box : Option (Box Versions) → Versions
in_box None = record { items = []; room = 0 }
in_box (Some run) = run.value
