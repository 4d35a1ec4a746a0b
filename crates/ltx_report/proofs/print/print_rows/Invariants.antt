use Rattle.std.proofs.Common.{◌≡◌, ℕ, List, ◌++◌, take, flat_map}
use Rattle.std.specs.Io.KnownBytes.{Appends}
use Rattle.ltx_reply.specs.Recoveries.{row_line}
use Rattle.ltx_report.proofs.print.print_rows.Given as goal

-- what was written and what is gathered is the text of the rows so far, and the count is as it was
abbrev pub invariant-loop-row : goal.invariant-loop-row
invariant-loop-row g l = record {
  text : (done : List ℕ) × Appends (g.K.Sink.written l.fn.sink) (g.K.Sink.written l.sink) done × (done ++ l.text.items ≡ flat_map row_line (take l.row-index l.rows));
  calm : g.K.Sink.faults l.sink ≡ g.K.Sink.faults l.fn.sink;
}
