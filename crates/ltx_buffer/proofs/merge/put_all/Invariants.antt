use Rattle.std.proofs.Common.{◌≡◌, ◌++◌, take}
use Rattle.ltx_buffer.specs.Places.{rows_put}
use Rattle.ltx_buffer.proofs.merge.put_all.Given as goal

-- the writes so far have added their rows
abbrev pub invariant-loop-write : goal.invariant-loop-write
invariant-loop-write l = l.merged.items ≡ l.fn.merged.items ++ rows_put (take l.write-index l.own)
