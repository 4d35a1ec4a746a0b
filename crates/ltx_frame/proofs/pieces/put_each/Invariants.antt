use Rattle.std.proofs.Common.{◌≡◌, ◌++◌, take, flat_map}
use Rattle.ltx_model.specs.Spellings.{write_bytes}
use Rattle.ltx_frame.proofs.pieces.put_each.Given as goal

abbrev pub invariant-loop-write : goal.invariant-loop-write
invariant-loop-write l = l.out.items ≡ l.initial.out.items ++ flat_map write_bytes (take l.write-index l.writes)
