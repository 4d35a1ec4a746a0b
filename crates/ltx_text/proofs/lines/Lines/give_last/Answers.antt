use Rattle.std.proofs.Common.{◌≡◌, ◌∙◌, ◌∷◌, [], List, ℕ, sym, ap, length}
use Rattle.ltx_text.specs.Lines.{LinesState, piece_of}
use Rattle.ltx_text.proofs.LineLemmas.{pieces_last, pieces_none}
use Rattle.ltx_text.proofs.lines.Lines.give_last.Goals as goal

pub returns-then-length-eq0-clause-piece : goal.returns-then-length-eq0-clause-piece
returns-then-length-eq0-clause-piece c = pieces_none _ (ap length (sym c.held-length.ensures) ∙ c.if-length-eq0.true)

pub returns-clause-piece : goal.returns-clause-piece
returns-clause-piece c =
    let all : c.held.result.now ≡ c.args.self.now.held = c.held.ensures.value ∙ ap (λ (s : LinesState). s.held) c.self.view_is in
    c.in_ok-piece.ensures.piece ∙ ap (λ (t : List ℕ). piece_of t ∷ []) all
    ∙ pieces_last c.args.self.now.held c.requires (λ none. c.if-length-eq0.false (ap length c.held-length.ensures ∙ none))
