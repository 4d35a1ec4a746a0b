use Rattle.std.proofs.Common.{◌≡◌, map, take}
use Rattle.ltx_buffer.proofs.places.keys_of.Given as goal

-- the keys of the writes so far
abbrev pub invariant-loop-write : goal.invariant-loop-write
invariant-loop-write l = l.keys.items ≡ map (λ w. w.key) (take l.write-index l.writes)
