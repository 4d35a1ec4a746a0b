use Rattle.std.proofs.Common.{◌≡◌, ◌∙◌, List, ℕ, ap, subst, sym, true}
use Rattle.ltx_text.specs.Lines.{IsFirstFeed, LinesState, feeds}
use Rattle.ltx_text.proofs.LineGiven.{gave_last, gave_line}
use Rattle.ltx_text.proofs.lines.Lines.next.Goals as goal

pub returns-in-Some-clause-cuts : goal.returns-in-Some-clause-cuts
returns-in-Some-clause-cuts g c =
    let held : c.held.result.now ≡ c.args.self.now.held = c.held.ensures.value ∙ ap (λ (s : LinesState). s.held) c.self.view_is in
    let first = subst (λ (bytes : List ℕ). IsFirstFeed bytes c.in-Some.at) held c.in-Some.ensures in
    λ knows. gave_line c.give_line.result c.args.self.now c.give_line.new.self _ c.in-Some.at first c.give_line.ensures.piece c.give_line.ensures.state c.give_line.ensures.err

pub returns-in-None-clause-cuts : goal.returns-in-None-clause-cuts
returns-in-None-clause-cuts g c =
    let held : c.held.result.now ≡ c.args.self.now.held = c.held.ensures.value ∙ ap (λ (s : LinesState). s.held) c.self.view_is in
    let none : feeds c.args.self.now.held ≡ 0 = ap feeds (sym held) ∙ c.in-None.ensures in
    let met : c.args.self.now.ended ≡ true = ap (λ (s : LinesState). s.ended) (sym c.self.view_is) ∙ c.if-self-2.true in
    λ knows. gave_last c.give_last.result c.args.self.now c.give_last.new.self _ none (knows met) c.give_last.ensures.piece c.give_last.ensures.state c.give_last.ensures.err
