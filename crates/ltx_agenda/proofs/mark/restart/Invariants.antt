use Rattle.std.proofs.Common.{◌≡◌, ◌≤◌, ◌<◌, ℕ, length}
use Rattle.ltx_agenda.specs.Marks.{ends_of, mark_at, IsStarted}
use Rattle.ltx_agenda.specs.Runs.{rows_of}
use Rattle.ltx_agenda.proofs.mark.restart.Given as goal

abbrev pub invariant-loop-b : goal.invariant-loop-b
invariant-loop-b l = record {
  ends : ends_of l.marks ≡ ends_of l.fn.marks;
  lanes : (b : ℕ) → (mark_at l.marks b).lane ≡ (mark_at l.fn.marks b).lane;
  started : (b : ℕ) → b < l.b → b < length l.marks → IsStarted l.marks (rows_of l.runs) b;
  rest : (b : ℕ) → l.b ≤ b → mark_at l.marks b ≡ mark_at l.fn.marks b;
}
