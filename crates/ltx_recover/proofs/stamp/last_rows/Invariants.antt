use Rattle.std.proofs.Common.{drop}
use Rattle.ltx_recover.specs.Stamps.{stamped_in}
use Rattle.ltx_recover.proofs.Stamps.{IsPass}
use Rattle.ltx_recover.proofs.stamp.last_rows.Given as goal

abbrev pub invariant-loop-i : goal.invariant-loop-i
invariant-loop-i l = IsPass (stamped_in l.stamps) l.rows.items (stamped_in (drop l.i l.stamps))
