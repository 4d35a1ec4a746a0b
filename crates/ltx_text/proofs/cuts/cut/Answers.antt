use Rattle.std.proofs.Common.{◌≡◌, ◌∷◌, ◌∙◌, take, drop, ap, sym, List, ℕ}
use Rattle.ltx_text.specs.Cuts.{cut_at}
use Rattle.ltx_text.proofs.CutLemmas.{cut_whole, cut_there}
use Rattle.ltx_text.proofs.cuts.cut.Goals as goal

pub returns-in-None-clause-parts : goal.returns-in-None-clause-parts
returns-in-None-clause-parts c =
    cut_whole c.args.at c.args.text.now (sym c.in-None.ensures)

pub returns-in-Some-clause-parts : goal.returns-in-Some-clause-parts
returns-in-Some-clause-parts c =
    let front : take c.in-Some.i c.args.text.now ≡ c.split_at.result.0.now = sym c.split_at.ensures.front in
    let after : drop 1 (drop c.in-Some.i c.args.text.now) ≡ c.split_at-in-Some.result.1.now = sym (c.split_at-in-Some.ensures.back ∙ ap (drop 1) c.split_at.ensures.back) in
    cut_there c.args.at c.args.text.now c.in-Some.i (sym c.in-Some.ensures)
    ∙ ap (λ (t : List ℕ). t ∷ cut_at c.args.at (drop 1 (drop c.in-Some.i c.args.text.now))) front
    ∙ ap (λ (t : List ℕ). c.split_at.result.0.now ∷ cut_at c.args.at t) after
