use Rattle.std.proofs.Common.{[]}
use Rattle.std.proofs.lemmas.Result.{err_from_is_err_and}
use Rattle.ltx_top.specs.Hands.{hand_of}
use Rattle.ltx_top.proofs.Results.{way_stops, way_rose, took_on, took_stops, took_rose, took_calm, took_less, took_ended}
use Rattle.ltx_top.proofs.runner.Runner.take_piece.Goals as goal

pub returns-in_err-hand_over-clause-stops : goal.returns-in_err-hand_over-clause-stops
returns-in_err-hand_over-clause-stops g c =
    let p = err_from_is_err_and c.from_residual.result c.from_residual.ensures.1 in
    rw (p.1, p.2) (way_stops c.in_err-hand_over.field-0.0 c.in_err-hand_over.ensures.cause (g.S.Source.left c.args.source.now) (g.S.Source.reads c.args.source.now) (g.K.Sink.written c.args.sink.now) (g.K.Sink.written c.hand_over.new.sink) (hand_of c.args.self.now) [] c.hand_over.new.text.items
    c.hand_over.ensures.front.0 c.hand_over.ensures.front.1)

pub returns-in_err-hand_over-clause-rose : goal.returns-in_err-hand_over-clause-rose
returns-in_err-hand_over-clause-rose g c =
    let p = err_from_is_err_and c.from_residual.result c.from_residual.ensures.1 in
    rw (p.1, p.2) (way_rose c.in_err-hand_over.field-0.0 c.in_err-hand_over.ensures.cause (g.S.Source.faults c.args.source.now) (g.K.Sink.faults c.args.sink.now) (g.K.Sink.faults c.hand_over.new.sink) c.in_err-hand_over.ensures.rose)

pub returns-clause-on : goal.returns-clause-on
returns-clause-on g c =
    let whole = c.in_ok-hand_over.ensures.whole in
    let next = c.next_piece.ensures in
    took_on (g.S.Source.left c.args.source.now) (g.S.Source.left c.next_piece.new.source) (g.S.Source.reads c.args.source.now) (g.S.Source.reads c.next_piece.new.source) (g.K.Sink.written c.args.sink.now) (g.K.Sink.written c.hand_over.new.sink)
    c.args.self.now.lines c.next_piece.new.lines c.args.self.now.responder.core c.args.self.now.responder.text.items c.hand_over.new.text.items c.args.self.now.responder.malformed whole.0 whole.1
    next.limit next.knows next.quiet c.next_piece.result next.asks next.gave next.within

pub returns-clause-ended : goal.returns-clause-ended
returns-clause-ended g c =
    let p = c.requires.under_way.1 in
    took_ended c.next_piece.result (g.S.Source.left c.next_piece.new.source) c.next_piece.new.lines (c.next_piece.ensures.knows p.knows) c.next_piece.ensures.ended

pub returns-clause-less : goal.returns-clause-less
returns-clause-less g c =
    let p = c.requires.under_way.1 in
    took_less c.next_piece.result (g.S.Source.left c.args.source.now) (g.S.Source.left c.next_piece.new.source) c.args.self.now.lines c.next_piece.new.lines p.knows c.next_piece.ensures.gave c.next_piece.ensures.least c.next_piece.ensures.limit

pub returns-clause-stops : goal.returns-clause-stops
returns-clause-stops g c =
    let whole = c.in_ok-hand_over.ensures.whole in
    let next = c.next_piece.ensures in
    took_stops (g.S.Source.left c.args.source.now) (g.S.Source.left c.next_piece.new.source) (g.S.Source.reads c.args.source.now) (g.S.Source.reads c.next_piece.new.source) (g.K.Sink.written c.args.sink.now) (g.K.Sink.written c.hand_over.new.sink)
    c.args.self.now.lines c.next_piece.new.lines c.args.self.now.responder.core c.args.self.now.responder.text.items c.hand_over.new.text.items c.args.self.now.responder.malformed whole.0 whole.1
    next.limit next.knows next.quiet c.next_piece.result next.asks next.lost next.failed next.failed_open next.passed next.past next.below next.within next.other

pub returns-clause-calm : goal.returns-clause-calm
returns-clause-calm g c =
    took_calm c.next_piece.result (g.S.Source.faults c.args.source.now) (g.S.Source.faults c.next_piece.new.source) (g.K.Sink.faults c.args.sink.now) (g.K.Sink.faults c.hand_over.new.sink) c.in_ok-hand_over.ensures.calm c.next_piece.ensures.calm

pub returns-clause-rose : goal.returns-clause-rose
returns-clause-rose g c =
    took_rose c.next_piece.result (g.S.Source.faults c.args.source.now) (g.S.Source.faults c.next_piece.new.source) (g.K.Sink.faults c.args.sink.now) (g.K.Sink.faults c.hand_over.new.sink)
    c.in_ok-hand_over.ensures.calm c.next_piece.ensures.rose c.next_piece.ensures.calm c.next_piece.ensures.other
