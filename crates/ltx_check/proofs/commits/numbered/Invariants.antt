use Rattle.std.proofs.Common.{◌≡◌, ℕ, take}
use Rattle.std.specs.List.{find}
use Rattle.std.specs.Ordering.{nat_cmp}
use Rattle.std.specs.BTreeMap.{get}
use Rattle.ltx_check.specs.Marks.{is_commit_of}
use Rattle.ltx_check.proofs.commits.numbered.Given as goal

abbrev pub invariant-loop-commit : goal.invariant-loop-commit
invariant-loop-commit l = (n : ℕ) → get nat_cmp l.by_number n ≡ find (is_commit_of n) (take l.commit-index l.commits)
