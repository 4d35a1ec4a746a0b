use Rattle.std.proofs.Common.{[], ◌∷◌, IfErr, refl, subst}
use Rattle.ltx_model.specs.declared.commands.Line.{Line}
use Rattle.ltx_script.specs.Lines.{line_of}
use Rattle.ltx_top.specs.Hands.{RespondsNot, hand_with}
use Rattle.ltx_top.specs.Runs.{devices}
use Rattle.ltx_top.proofs.Steps.{halt}
use Rattle.ltx_top.proofs.responder.Responder.respond_to_bytes.Goals as goal

pub returns-in-Err-clause-stops : goal.returns-in-Err-clause-stops
returns-in-Err-clause-stops g c = λ left reads reader start p. halt start (devices left reads (g.K.Sink.written c.args.sink.now)) (hand_with reader c.args.self.now) (line_of c.args.bytes.now ∷ []) p

pub returns-in-Err-clause-rose : goal.returns-in-Err-clause-rose
returns-in-Err-clause-rose g c = λ s. refl

pub returns-in-Ok-clause-stops : goal.returns-in-Ok-clause-stops
returns-in-Ok-clause-stops g c =
    subst (λ (l : Line). IfErr c.respond_to_line.result (λ stop. RespondsNot stop (g.K.Sink.written c.args.sink.now) c.args.self.now (l ∷ []) (g.K.Sink.written c.respond_to_line.new.sink) c.respond_to_line.new.self))
    c.in-Ok.ensures.exact c.respond_to_line.ensures.stops
