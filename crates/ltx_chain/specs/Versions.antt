-- The versions of a key, and which of them are seen at a mark.
use Rattle.std.specs.Prelude.{ℕ, Bool, ◌<◌, nat_le, List, [], ◌∷◌, Option, Some, None, filter, if◌then◌else◌}
use Rattle.std.specs.List.{AllByRecursion, list_any}
use Rattle.std.specs.Option.{option_or}
use Rattle.ltx_chain.specs.declared.chain.Version.{Version}

-- The versions that stand, and how many more can be added without taking memory.
pub record Versions : Type 0 where
  pub items : List Version
  pub room : ℕ

-- the marks of all versions are below this one
abbrev pub AreBelow : ℕ → List Version → Type 0
AreBelow mark versions = AllByRecursion (λ v. v.mark < mark) versions

-- marks strictly rise
abbrev pub IsRising : List Version → Type 0
IsRising [] = Unit {0}
IsRising (v ∷ vs) = AllByRecursion (λ w. v.mark < w.mark) vs × IsRising vs

-- the last version
abbrev pub latest : List Version → Option Version
latest [] = None
latest (v ∷ vs) = option_or (latest vs) (Some v)

-- whether a version has at most this mark
abbrev pub is_at_most : ℕ → Version → Bool
is_at_most mark v = nat_le v.mark mark

-- what is seen at a mark: the last version whose mark is at most that
abbrev pub visible : ℕ → List Version → Option Version
visible mark versions = latest (filter (is_at_most mark) versions)

-- What is seen at some mark from this one on: a version is dropped where a later one has at most this mark.
abbrev pub kept_from : ℕ → List Version → List Version
kept_from mark [] = []
kept_from mark (v ∷ vs) = if list_any (is_at_most mark) vs then kept_from mark vs else v ∷ kept_from mark vs
