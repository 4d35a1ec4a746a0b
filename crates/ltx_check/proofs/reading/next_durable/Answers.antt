use Rattle.std.proofs.Common.{◌≡◌, List, ℕ, ◌∷◌, rules}
use Rattle.ltx_model.specs.Limits.{IsCount}
use Rattle.ltx_check.specs.Cuts.{lines_of, ended}
use Rattle.ltx_check.specs.Texts.{durable_line}
use Rattle.ltx_check.proofs.ReadingLemmas.{no_durable_read}
use Rattle.ltx_check.proofs.reading.next_durable.Goals as goal

pub returns-in-None-clause-none : goal.returns-in-None-clause-none
returns-in-None-clause-none c =
    let line = c.in-Some.line.now in
    let more = c.in-Some.more.now in
    let cut : lines_of c.args.text.now ≡ ended line ∷ lines_of more = search rules in
    let none : (epoch : ℕ) → IsCount epoch → durable_line epoch ≡ line → ⊥ = search rules in
    no_durable_read c.args.text.now line (lines_of more) cut none

pub returns-in_default-clause-none : goal.returns-in_default-clause-none
returns-in_default-clause-none c =
    let none : (line : List ℕ) (more : List (List ℕ)) → lines_of c.args.text.now ≡ ended line ∷ more → ⊥ = search rules in
    λ epoch more fits is. none (durable_line epoch) more is
