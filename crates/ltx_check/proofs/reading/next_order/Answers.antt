use Rattle.std.proofs.Common.{◌≡◌, List, ℕ, ◌∷◌, rules}
use Rattle.ltx_check.specs.Cuts.{lines_of, ended}
use Rattle.ltx_check.specs.Texts.{AreTxs, order_line}
use Rattle.ltx_check.proofs.ReadingLemmas.{no_order_read}
use Rattle.ltx_check.proofs.reading.next_order.Goals as goal

pub returns-in-Ok-None-clause-none : goal.returns-in-Ok-None-clause-none
returns-in-Ok-None-clause-none c =
    let line = c.in-Some.line.now in
    let more = c.in-Some.more.now in
    let cut : lines_of c.args.text.now ≡ ended line ∷ lines_of more = search rules in
    let none : (order : List ℕ) → AreTxs order → order_line order ≡ line → ⊥ = (rw c.in-Ok-None.field-0-is at c.in-Ok-None.ensures.none) in
    no_order_read c.args.text.now line (lines_of more) cut none

pub returns-in_default-clause-none : goal.returns-in_default-clause-none
returns-in_default-clause-none c =
    let none : (line : List ℕ) (more : List (List ℕ)) → lines_of c.args.text.now ≡ ended line ∷ more → ⊥ = search rules in
    λ order more fits is. none (order_line order) more is
