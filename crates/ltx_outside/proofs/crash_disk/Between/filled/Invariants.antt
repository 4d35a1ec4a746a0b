use Rattle.std.proofs.Common.{◌≡◌, ◌<◌, ℕ, length, get_or}
use Rattle.ltx_outside.specs.Crash.{byte_of}
use Rattle.ltx_outside.proofs.crash_disk.Between.filled.Given as goal

abbrev pub invariant-loop-place : goal.invariant-loop-place
invariant-loop-place l = (length l.image.items ≡ l.place) × ((place : ℕ) → place < l.place → get_or l.image.items place 0 ≡ byte_of l.self l.fill place)
