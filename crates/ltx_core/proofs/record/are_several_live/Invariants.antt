use Rattle.std.proofs.Common.{◌≡◌, ◌+◌, drop}
use Rattle.ltx_core.proofs.LiveWalks.{live_count}
use Rattle.ltx_core.proofs.record.are_several_live.Given as goal

-- the live ones so far, and those that are left
abbrev pub invariant-loop-place : goal.invariant-loop-place
invariant-loop-place l = l.live + live_count (drop l.place l.preserve) ≡ live_count l.preserve
