use Rattle.std.proofs.Common.{[], ◌∷◌, ◌∙◌, List, ℕ, ap, sym, subst}
use Rattle.std.proofs.lemmas.Result.{err_from_is_err_and}
use Rattle.ltx_model.specs.declared.commands.Line.{Line}
use Rattle.ltx_text.specs.declared.piece.Piece.{Piece}
use Rattle.ltx_script.specs.Lines.{line_of}
use Rattle.ltx_top.specs.Hands.{hand_of}
use Rattle.ltx_top.specs.Runs.{devices}
use Rattle.ltx_top.specs.Progress.{Progress}
use Rattle.ltx_top.specs.Spellings.{lines_in}
use Rattle.ltx_top.proofs.runner.Runner.respond_to_piece.Goals as goal

pub returns-in_err-respond_to_line-in-TooLong-clause-stops : goal.returns-in_err-respond_to_line-in-TooLong-clause-stops
returns-in_err-respond_to_line-in-TooLong-clause-stops g c =
    let p = err_from_is_err_and c.from_residual.result c.from_residual.ensures.1 in
    rw (p.1, p.2) λ left reads start p.
    c.in_err-respond_to_line-in-TooLong.ensures.stops left reads c.args.self.now.lines start
    (subst (λ (piece : Piece). Progress start (devices left reads (g.K.Sink.written c.args.sink.now)) (hand_of c.args.self.now) (lines_in piece)) c.in-TooLong.is p)

pub returns-in_err-respond_to_bytes-in-Line-clause-stops : goal.returns-in_err-respond_to_bytes-in-Line-clause-stops
returns-in_err-respond_to_bytes-in-Line-clause-stops g c =
    let p = err_from_is_err_and c.from_residual-in_err-respond_to_bytes-in-Line.result c.from_residual-in_err-respond_to_bytes-in-Line.ensures.1 in
    rw (p.1, p.2) λ left reads start p.
    c.in_err-respond_to_bytes-in-Line.ensures.stops left reads c.args.self.now.lines start
    (subst (λ (lines : List Line). Progress start (devices left reads (g.K.Sink.written c.args.sink.now)) (hand_of c.args.self.now) lines)
    (ap lines_in c.in-Line.is ∙ ap (λ (bytes : List ℕ). line_of bytes ∷ []) (sym c.deref.ensures.value)) p)
