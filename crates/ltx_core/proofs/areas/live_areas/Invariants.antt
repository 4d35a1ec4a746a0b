use Rattle.std.proofs.Common.{◌≡◌, ◌++◌, drop}
use Rattle.ltx_core.specs.Recorded.{areas_of_live}
use Rattle.ltx_core.proofs.areas.live_areas.Given as goal

-- the live ones so far, and those that are left
abbrev pub invariant-loop-place : goal.invariant-loop-place
invariant-loop-place l = l.lives.items ++ areas_of_live (drop l.place l.preserve) (drop l.place l.areas) ≡ areas_of_live l.preserve l.areas
