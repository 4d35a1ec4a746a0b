use Rattle.std.proofs.Common.{[], subst}
use Rattle.ltx_top.specs.declared.status.Stop.{Stop}
use Rattle.ltx_top.specs.Endings.{RoseAt}
use Rattle.ltx_top.specs.Hands.{hand_of}
use Rattle.ltx_top.specs.Runs.{devices}
use Rattle.ltx_top.specs.Progress.{Start, Ends, Progress}
use Rattle.ltx_top.proofs.Results.{calm_after, worked_ran, worked_stops, worked_rose, end_stops, gave_up, gave_up_rose}
use Rattle.ltx_top.proofs.runner.Runner.work.Goals as goal

pub returns-in-Ok-clause-ran : goal.returns-in-Ok-clause-ran
returns-in-Ok-clause-ran g c =
    worked_ran (λ (start : Start). Progress start (devices (g.S.Source.left c.args.source.now) (g.S.Source.reads c.args.source.now) (g.K.Sink.written c.args.sink.now)) (hand_of c.args.self.now) [])
    (g.S.Source.left c.answer_all.new.source) (g.S.Source.reads c.answer_all.new.source) (g.K.Sink.written c.answer_all.new.sink) (g.K.Sink.written c.finish.new.sink) (hand_of c.answer_all.new.self) c.in-Ok.ensures.on
    c.finish.result c.finish.new.self.responder.malformed c.finish.ensures.same c.in-Ok.ensures.ended.0 c.in-Ok.ensures.ended.1 c.finish.ensures.ran

pub returns-in-Ok-clause-stops : goal.returns-in-Ok-clause-stops
returns-in-Ok-clause-stops g c =
    worked_stops (λ (start : Start). Progress start (devices (g.S.Source.left c.args.source.now) (g.S.Source.reads c.args.source.now) (g.K.Sink.written c.args.sink.now)) (hand_of c.args.self.now) [])
    (g.S.Source.left c.answer_all.new.source) (g.S.Source.reads c.answer_all.new.source) (g.K.Sink.written c.answer_all.new.sink) (g.K.Sink.written c.finish.new.sink) (hand_of c.answer_all.new.self) c.in-Ok.ensures.on
    c.finish.result c.in-Ok.ensures.ended.0 c.in-Ok.ensures.ended.1 c.finish.ensures.stops

pub returns-in-Ok-clause-rose : goal.returns-in-Ok-clause-rose
returns-in-Ok-clause-rose g c =
    worked_rose c.finish.result (g.S.Source.faults c.args.source.now) (g.S.Source.faults c.answer_all.new.source) (g.K.Sink.faults c.args.sink.now) (g.K.Sink.faults c.answer_all.new.sink) (g.K.Sink.faults c.finish.new.sink)
    c.in-Ok.ensures.calm.0 c.in-Ok.ensures.calm.1 c.finish.ensures.rose

pub returns-in-Err-NoMemory-clause-stops : goal.returns-in-Err-NoMemory-clause-stops
returns-in-Err-NoMemory-clause-stops g c = λ start p.
    gave_up c.give_up.result c.give_up.ensures.stop start (g.S.Source.left c.answer_all.new.source) (g.S.Source.reads c.answer_all.new.source) (g.K.Sink.written c.answer_all.new.sink) (g.K.Sink.written c.give_up.new.sink) c.answer_all.new.self.responder.text.items c.give_up.ensures.front
    (subst (λ (s : Stop). Ends s start (devices (g.S.Source.left c.answer_all.new.source) (g.S.Source.reads c.answer_all.new.source) (g.K.Sink.written c.answer_all.new.sink)) c.answer_all.new.self.responder.text.items)
    c.in-Err-NoMemory.field-0-is (c.in-Err-NoMemory.ensures.stops start p))

pub returns-in-Err : goal.returns-in-Err
returns-in-Err g c = record {
  ran = tt;
  calm = tt;
  stops = λ start p. end_stops c.in-Err.stop start (devices (g.S.Source.left c.answer_all.new.source) (g.S.Source.reads c.answer_all.new.source) (g.K.Sink.written c.answer_all.new.sink)) c.answer_all.new.self.responder.text.items (c.in-Err.ensures.stops start p);
  rose = c.in-Err.ensures.rose;
  source_counted = c.in-Err.ensures.source_counted;
  sink_counted = c.in-Err.ensures.sink_counted;
}

pub returns-in-Ok-clause-calm : goal.returns-in-Ok-clause-calm
returns-in-Ok-clause-calm g c =
    calm_after c.finish.result (g.S.Source.faults c.args.source.now) (g.S.Source.faults c.answer_all.new.source) (g.K.Sink.faults c.args.sink.now) (g.K.Sink.faults c.answer_all.new.sink) (g.K.Sink.faults c.finish.new.sink)
    c.in-Ok.ensures.calm.0 c.in-Ok.ensures.calm.1 c.finish.ensures.calm

pub returns-in-Err-NoMemory-clause-rose : goal.returns-in-Err-NoMemory-clause-rose
returns-in-Err-NoMemory-clause-rose g c =
    gave_up_rose c.give_up.result c.give_up.ensures.stop (g.S.Source.faults c.args.source.now) (g.S.Source.faults c.answer_all.new.source) (g.K.Sink.faults c.args.sink.now) (g.K.Sink.faults c.give_up.new.sink)
    (subst (λ (s : Stop). RoseAt s (g.S.Source.faults c.args.source.now) (g.S.Source.faults c.answer_all.new.source) (g.K.Sink.faults c.args.sink.now) (g.K.Sink.faults c.answer_all.new.sink)) c.in-Err-NoMemory.field-0-is c.in-Err-NoMemory.ensures.rose)
