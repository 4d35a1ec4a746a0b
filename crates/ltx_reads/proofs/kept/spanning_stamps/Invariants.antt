use Rattle.std.proofs.Common.{◌≡◌, map, filter, take}
use Rattle.ltx_reads.specs.Looks.{spanned}
use Rattle.ltx_reads.specs.Stamped.{kept_of}
use Rattle.ltx_reads.proofs.kept.spanning_stamps.Given as goal

abbrev pub invariant-loop-stamp : goal.invariant-loop-stamp
invariant-loop-stamp l = l.found.items ≡ map (λ e. e.stamp) (filter (spanned (record { table = l.table; key = l.key })) (kept_of l.kept (take l.stamp-index l.stamps)))
