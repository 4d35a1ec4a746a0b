use Rattle.std.proofs.Common.{◌≡◌, ℕ, ◌∷◌, rules}
use Rattle.ltx_model.specs.Limits.{IsTx}
use Rattle.ltx_text.specs.Decimals.{decimal_of}
use Rattle.ltx_check.proofs.Numbers.{no_number}
use Rattle.ltx_check.proofs.words.next_number.Goals as goal

pub returns-in-None-clause-none : goal.returns-in-None-clause-none
returns-in-None-clause-none c =
    let spaced = c.in-Some.spaced.now in
    let word = c.cut_word.result.0.now in
    let rest = c.cut_word.result.1.now in
    let first : c.args.text.now ≡ 32 ∷ spaced = search rules in
    let none : (n : ℕ) → IsTx n → word ≡ decimal_of n → ⊥ = search rules in
    no_number c.args.text.now spaced word rest first c.cut_word.ensures.parts c.cut_word.ensures.apart c.cut_word.ensures.ends none
