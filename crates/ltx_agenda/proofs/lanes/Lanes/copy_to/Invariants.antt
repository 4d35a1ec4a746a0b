use Rattle.std.proofs.Common.{◌≡◌, ◌≤◌, ◌++◌, drop, vec_capacity}
use Rattle.ltx_agenda.specs.Runs.{rows_of, members_of}
use Rattle.ltx_agenda.proofs.lanes.Lanes.copy_to.Given as goal

abbrev pub invariant-loop-run : goal.invariant-loop-run
invariant-loop-run l = record {
  whole : l.flat.items ++ members_of (rows_of (drop l.run-index l.run-items)) ≡ l.fn.flat.items ++ l.self.list;
  capacity : vec_capacity l.fn.flat ≤ vec_capacity l.flat;
}
