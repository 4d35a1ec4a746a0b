use Rattle.std.proofs.Common.{◌≡◌, drop, slice_get}
use Rattle.ltx_agenda.specs.Runs.{rows_of, members_of}
use Rattle.ltx_agenda.proofs.lanes.Lanes.at.Given as goal

abbrev pub invariant-loop-run : goal.invariant-loop-run
invariant-loop-run l =
    slice_get (members_of (rows_of l.run-items)) l.place ≡ slice_get (members_of (rows_of (drop l.run-index l.run-items))) l.left
