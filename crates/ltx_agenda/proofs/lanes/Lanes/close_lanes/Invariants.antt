use Rattle.std.proofs.Common.{◌≡◌, ◌≤◌, ◌+◌, ◌++◌, drop, length, vec_capacity}
use Rattle.ltx_agenda.specs.Runs.{rows_of, members_of}
use Rattle.ltx_agenda.specs.Marks.{ends_of}
use Rattle.ltx_agenda.specs.Lanes.{closed, start_no}
use Rattle.ltx_agenda.proofs.lanes.Lanes.close_lanes.Given as goal

abbrev pub invariant-loop-run : goal.invariant-loop-run
invariant-loop-run l = record {
  lens : l.lens.items ++ closed l.open (drop l.run (ends_of l.self-inside.marks.items)) (drop l.run (rows_of l.self-inside.runs.items)) ≡ l.fn.lens.items ++ closed l.before (ends_of l.self-inside.marks.items) (rows_of l.self-inside.runs.items);
  open_lane : start_no l.open (drop l.run (ends_of l.self-inside.marks.items)) (drop l.run (rows_of l.self-inside.runs.items)) (length (drop l.run (ends_of l.self-inside.marks.items)))
      ≡ start_no l.before (ends_of l.self-inside.marks.items) (rows_of l.self-inside.runs.items) (length (ends_of l.self-inside.marks.items));
  bounded : l.open + length (members_of (drop l.run (rows_of l.self-inside.runs.items))) ≤ l.before + length (members_of (rows_of l.self-inside.runs.items));
  capacity : vec_capacity l.lens ≡ vec_capacity l.fn.lens;
}
