use Rattle.std.proofs.Common.{◌+◌, drop, length, refl}
use Rattle.std.proofs.lemmas.Result.{err_from_is_err_and}
use Rattle.ltx_top.proofs.Results.{held_line, held_less}
use Rattle.ltx_top.proofs.runner.Runner.turn_held.Goals as goal

pub returns-clause-on : goal.returns-clause-on
returns-clause-on g c = λ left reads start p.
    let lent = c.in-Some.ensures.line in
    c.in_ok-respond_to_bytes.ensures.on left reads c.skip_line.new.self start
    (held_line start left reads (g.K.Sink.written c.args.sink.now) c.args.self.now.lines c.skip_line.new.self c.args.self.now.responder.core c.args.self.now.responder.text.items c.args.self.now.responder.malformed
    c.in-Some.bytes.now lent.1 lent.2 c.skip_line.ensures p)

pub returns-clause-less : goal.returns-clause-less
returns-clause-less g c = λ held. held_less c.args.self.now.lines c.skip_line.new.self (length c.in-Some.bytes.now) c.in-Some.ensures.line.1 c.skip_line.ensures

pub returns-in_err-respond_to_bytes-clause-stops : goal.returns-in_err-respond_to_bytes-clause-stops
returns-in_err-respond_to_bytes-clause-stops g c =
    let p = err_from_is_err_and c.from_residual.result c.from_residual.ensures.1 in
    rw (p.1, p.2) λ left reads start p.
    let lent = c.in-Some.ensures.line in
    let lines = c.args.self.now.lines in
    let rest = record lines { held = drop (length c.in-Some.bytes.now + 1) lines.held } in
    c.in_err-respond_to_bytes.ensures.stops left reads rest start
    (held_line start left reads (g.K.Sink.written c.args.sink.now) lines rest c.args.self.now.responder.core c.args.self.now.responder.text.items c.args.self.now.responder.malformed c.in-Some.bytes.now lent.1 lent.2 refl p)
