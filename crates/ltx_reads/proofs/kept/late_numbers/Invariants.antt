use Rattle.std.proofs.Common.{◌≡◌, map, filter, nat_lt, take}
use Rattle.ltx_reads.specs.Stamped.{kept_of}
use Rattle.ltx_reads.proofs.kept.late_numbers.Given as goal

abbrev pub invariant-loop-stamp : goal.invariant-loop-stamp
invariant-loop-stamp l = l.found.items ≡ map (λ e. e.commit.number) (filter (λ e. nat_lt l.above e.commit.mark) (kept_of l.kept (take l.stamp-index l.stamps)))
