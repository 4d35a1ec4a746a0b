use Rattle.std.proofs.Common.{◌<◌, take}
use Rattle.std.specs.List.{AllByRecursion}
use Rattle.ltx_model.specs.Operations.{cell_of_write}
use Rattle.ltx_store.specs.Kept.{room_at, HasSameVersions}
use Rattle.ltx_store.proofs.store.Store.reserve.Given as goal

-- there is room for the writes so far
abbrev pub invariant-loop-write : goal.invariant-loop-write
invariant-loop-write l = record { same : HasSameVersions l.initial.self l.self; made : AllByRecursion (λ w. 0 < room_at l.self (cell_of_write w)) (take l.write-index l.writes) }
