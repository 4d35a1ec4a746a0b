use Rattle.std.proofs.Common.{refl}
use Rattle.ltx_top.specs.Hands.{hand_of}
use Rattle.ltx_top.proofs.Results.{closed_ran, closed_stops, gave_up_rose, unclosed}
use Rattle.ltx_top.proofs.runner.Runner.finish.Goals as goal

pub returns-in-Err-clause-stops : goal.returns-in-Err-clause-stops
returns-in-Err-clause-stops g c =
    unclosed c.give_up.result c.give_up.ensures.stop (g.K.Sink.written c.args.sink.now) (g.K.Sink.written c.give_up.new.sink) (hand_of c.args.self.now) c.close.new.self.text.items c.in-Err.ensures.kept c.give_up.ensures.front

pub returns-in-Ok-clause-ran : goal.returns-in-Ok-clause-ran
returns-in-Ok-clause-ran g c =
    closed_ran (g.K.Sink.written c.args.sink.now) (g.K.Sink.written c.hand_over.new.sink) (hand_of c.args.self.now) c.close.new.self.text.items c.in-Ok.ensures.ending c.hand_over.result c.hand_over.new.text.items c.hand_over.ensures.whole

pub returns-in-Ok-clause-stops : goal.returns-in-Ok-clause-stops
returns-in-Ok-clause-stops g c =
    closed_stops (g.K.Sink.written c.args.sink.now) (g.K.Sink.written c.hand_over.new.sink) (hand_of c.args.self.now) c.close.new.self.text.items c.in-Ok.ensures.ending c.hand_over.result c.hand_over.ensures.cause c.hand_over.ensures.front

pub returns-in-Err-clause-rose : goal.returns-in-Err-clause-rose
returns-in-Err-clause-rose g c = λ s. gave_up_rose c.give_up.result c.give_up.ensures.stop s s (g.K.Sink.faults c.args.sink.now) (g.K.Sink.faults c.give_up.new.sink) refl
