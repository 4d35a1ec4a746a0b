use Rattle.std.proofs.Common.{◌≡◌, ◌++◌, drop}
use Rattle.ltx_recover.specs.Stamps.{stamped_in, stamped_by}
use Rattle.ltx_recover.proofs.stamp.put_stamps.Given as goal

-- with what is still to come they are all
abbrev pub invariant-loop-write : goal.invariant-loop-write
invariant-loop-write l = stamped_in l.stamps.items ++ stamped_by l.writer (drop l.write-index l.writes) ≡ stamped_in l.fn.stamps.items ++ stamped_by l.writer l.fn.writes
