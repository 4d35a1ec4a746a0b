use Rattle.std.proofs.Common.{◌≡◌, ◌+◌, drop}
use Rattle.ltx_agenda.specs.Runs.{rows_of}
use Rattle.ltx_agenda.specs.Marks.{ends_of}
use Rattle.ltx_agenda.specs.Lanes.{lane_no, lane_count}
use Rattle.ltx_agenda.proofs.lanes.Lanes.lane_len.Given as goal

abbrev pub invariant-loop-run : goal.invariant-loop-run
invariant-loop-run l =
    l.len + lane_count (lane_no 0 (ends_of l.self-inside.marks.items) l.run) (drop l.run (ends_of l.self-inside.marks.items)) (drop l.run (rows_of l.self-inside.runs.items)) l.lane
    ≡ lane_count 0 (ends_of l.self-inside.marks.items) (rows_of l.self-inside.runs.items) l.lane
