-- Kept commits, each with a stamp by which it is found.
use Rattle.std.specs.Prelude.{◌≡◌, ℕ, ◌<◌, ◌==◌, nat_lt, ◌++◌, Bool, true, false, List, [], ◌∷◌, filter, filter_map, is_some, Option, Some, None, if◌then◌else◌}
use Rattle.std.specs.List.{find, list_any, AllByRecursion}
use Rattle.ltx_model.specs.Lists.{IsPairwise}
use Rattle.ltx_model.specs.Records.{Recorded}

-- a commit with its stamp, which no other one has
pub record Stamped : Type 0 where
  pub stamp : ℕ
  pub commit : Recorded

-- the kept commit of a stamp, if it is kept
abbrev pub kept_at : List Stamped → ℕ → Option Stamped
kept_at kept s = find (λ e. e.stamp == s) kept

-- the kept commits of these stamps, without those that are not kept
abbrev pub kept_of : List Stamped → List ℕ → List Stamped
kept_of kept stamps = filter_map (kept_at kept) stamps

-- the commit, where it is of this stamp
abbrev pub if_stamp : ℕ → Option Stamped → Option Stamped
if_stamp s None = None
if_stamp s (Some e) = if e.stamp == s then Some e else None

-- the commit, where its number is above this one
abbrev pub if_late : ℕ → Option Stamped → Option Stamped
if_late above None = None
if_late above (Some e) = if nat_lt above e.commit.mark then Some e else None

-- one of these stamps is of a kept commit
abbrev pub has_kept : List Stamped → List ℕ → Bool
has_kept kept stamps = list_any (λ s. is_some (kept_at kept s)) stamps

-- stamps rise
abbrev pub AreRising : List Stamped → Type 0
AreRising kept = IsPairwise (λ a b. a.stamp < b.stamp) kept

-- stamps are below this one
abbrev pub AreBelow : ℕ → List Stamped → Type 0
AreBelow s kept = AllByRecursion (λ e. e.stamp < s) kept

-- the last stamp is this one
abbrev pub is_last : List ℕ → ℕ → Bool
is_last [] s = false
is_last (x ∷ []) s = x == s
is_last (x ∷ y ∷ ys) s = is_last (y ∷ ys) s

-- with this stamp behind the others, where it is not yet the last one
abbrev pub with_stamp : List ℕ → ℕ → List ℕ
with_stamp stamps s = if is_last stamps s then stamps else stamps ++ s ∷ []

-- Those of the stamps that are kept are the kept commits that pass the test, in order. Stamps that are not kept may be among them, all
-- below the next one.
pub record IsTied (kept : List Stamped) (next : ℕ) (test : Stamped → Bool) (stamps : List ℕ) : Type 0 where
  pub found : kept_of kept stamps ≡ filter test kept
  pub below : AllByRecursion (λ s. s < next) stamps
