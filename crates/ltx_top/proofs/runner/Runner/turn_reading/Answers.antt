use Rattle.ltx_top.proofs.Steps.{under_way}
use Rattle.ltx_top.proofs.Results.{calm_after, worked_rose}
use Rattle.ltx_top.proofs.runner.Runner.turn_reading.Goals as goal

pub respond_to_piece-requires : goal.respond_to_piece-requires
respond_to_piece-requires g c = let s = c.requires.under_way in record { under_way = under_way _ _ _ _ (c.in_ok-piece.ensures.on s.0 s.1) }

pub returns-clause-rose : goal.returns-clause-rose
returns-clause-rose g c =
    worked_rose c.respond_to_piece.result (g.S.Source.faults c.args.source.now) (g.S.Source.faults c.take_piece.new.source) (g.K.Sink.faults c.args.sink.now) (g.K.Sink.faults c.take_piece.new.sink) (g.K.Sink.faults c.respond_to_piece.new.sink)
    c.in_ok-piece.ensures.calm.0 c.in_ok-piece.ensures.calm.1 c.respond_to_piece.ensures.rose

pub returns-clause-calm : goal.returns-clause-calm
returns-clause-calm g c =
    calm_after c.respond_to_piece.result (g.S.Source.faults c.args.source.now) (g.S.Source.faults c.take_piece.new.source) (g.K.Sink.faults c.args.sink.now) (g.K.Sink.faults c.take_piece.new.sink) (g.K.Sink.faults c.respond_to_piece.new.sink)
    c.in_ok-piece.ensures.calm.0 c.in_ok-piece.ensures.calm.1 c.respond_to_piece.ensures.calm
