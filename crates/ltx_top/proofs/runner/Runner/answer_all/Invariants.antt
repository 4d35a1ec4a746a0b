use Rattle.std.proofs.Common.{◌≡◌, []}
use Rattle.ltx_text.specs.Lines.{to_go}
use Rattle.ltx_top.specs.Runs.{devices}
use Rattle.ltx_top.specs.Progress.{Steps}
use Rattle.ltx_top.specs.Hands.{hand_of}
use Rattle.ltx_top.proofs.runner.Runner.answer_all.Given as goal

-- the run goes on from where it began, and no count rose
abbrev pub invariant-loop : goal.invariant-loop
invariant-loop g l = record {
  on : Steps (devices (g.S.Source.left l.fn.source) (g.S.Source.reads l.fn.source) (g.K.Sink.written l.fn.sink)) (hand_of l.fn.self) []
      (devices (g.S.Source.left l.source) (g.S.Source.reads l.source) (g.K.Sink.written l.sink)) (hand_of l.self) [];
  source : g.S.Source.faults l.source ≡ g.S.Source.faults l.fn.source;
  sink : g.K.Sink.faults l.sink ≡ g.K.Sink.faults l.fn.sink;
}

abbrev pub decreases-loop : goal.decreases-loop
decreases-loop g l = to_go l.self.lines
