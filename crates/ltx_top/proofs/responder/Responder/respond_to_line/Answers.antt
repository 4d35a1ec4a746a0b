use Rattle.std.proofs.Common.{[], ◌∷◌, refl}
use Rattle.ltx_top.proofs.Results.{unserved, served_on, served_stops, served_rose}
use Rattle.ltx_top.proofs.responder.Responder.respond_to_line.Goals as goal

pub returns-in-Err-clause-stops : goal.returns-in-Err-clause-stops
returns-in-Err-clause-stops g c = λ left reads reader.
    unserved left reads (g.K.Sink.written c.args.sink.now) reader c.args.self.now.core c.args.self.now.text.items c.serve.new.text.items c.args.self.now.malformed (c.args.line.now ∷ []) c.in-Err.ensures.kept

pub returns-in-Err-clause-rose : goal.returns-in-Err-clause-rose
returns-in-Err-clause-rose g c = λ s. refl

pub returns-in-Ok-clause-on : goal.returns-in-Ok-clause-on
returns-in-Ok-clause-on g c =
    served_on (g.K.Sink.written c.args.sink.now) (g.K.Sink.written c.relieve.new.sink) c.args.self.now.core c.serve.new.core c.args.self.now.text.items c.serve.new.text.items c.relieve.new.text.items
    c.args.self.now.malformed c.args.line.now c.in-Ok.bad c.in-Ok.ensures.served c.relieve.result c.relieve.ensures.whole

pub returns-in-Ok-clause-stops : goal.returns-in-Ok-clause-stops
returns-in-Ok-clause-stops g c =
    served_stops (g.K.Sink.written c.args.sink.now) (g.K.Sink.written c.relieve.new.sink) c.args.self.now.core c.serve.new.core c.args.self.now.text.items c.serve.new.text.items c.relieve.new.text.items
    c.args.self.now.malformed c.args.line.now c.in-Ok.bad c.in-Ok.ensures.served c.relieve.result c.relieve.ensures.cause c.relieve.ensures.front

pub returns-in-Ok-clause-rose : goal.returns-in-Ok-clause-rose
returns-in-Ok-clause-rose g c = served_rose c.relieve.result (g.K.Sink.faults c.args.sink.now) (g.K.Sink.faults c.relieve.new.sink) c.relieve.ensures.cause c.relieve.ensures.rose
