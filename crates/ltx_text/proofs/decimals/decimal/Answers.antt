use Rattle.std.proofs.Common.{◌≡◌, ◌<◌, get_or, length, arith, rules, inl, inr}
use Rattle.ltx_text.proofs.DecimalLemmas.{decimal_is_some, decimal_again, decimal_zero, found_decimal, no_decimal}
use Rattle.ltx_text.proofs.decimals.decimal.Goals as goal

pub returns-then-is_empty-clause-none : goal.returns-then-is_empty-clause-none
returns-then-is_empty-clause-none c =
    let none : length c.args.word.now ≡ 0 = search rules in
    λ n low is. omega (arith, none, decimal_is_some c.args.word.now n low is)

pub returns-then-word-gt1-clause-none : goal.returns-then-word-gt1-clause-none
returns-then-word-gt1-clause-none c =
    λ n low is. omega (arith, c.if-word-gt1.true, decimal_zero c.args.word.now n low is c.if-word-eq48.true)

pub returns-clause-found : goal.returns-clause-found
returns-clause-found c =
    let word = c.args.word.now in
    let some : 0 < length word = search rules in
    let leading : get_or word 0 0 ≡ 48 → length word ≡ 1 = λ first. elim c.else-word-eq48.either [ inl p ↦ omega (arith, some, p.1) | inr p ↦ absurd (p first) ] in
    found_decimal word c.number_of.result some leading c.number_of.ensures.found

pub returns-clause-none : goal.returns-clause-none
returns-clause-none c = no_decimal c.args.word.now c.number_of.result c.number_of.ensures.none

pub returns-then-is_empty-clause-again : goal.returns-then-is_empty-clause-again
returns-then-is_empty-clause-again c =
    let none : length c.args.word.now ≡ 0 = search rules in
    λ n low is. absurd (omega (arith, none, decimal_is_some c.args.word.now n low is))

pub returns-then-word-gt1-clause-again : goal.returns-then-word-gt1-clause-again
returns-then-word-gt1-clause-again c =
    λ n low is. absurd (omega (arith, c.if-word-gt1.true, decimal_zero c.args.word.now n low is c.if-word-eq48.true))

pub returns-clause-again : goal.returns-clause-again
returns-clause-again c =
    let word = c.args.word.now in
    let some : 0 < length word = search rules in
    let leading : get_or word 0 0 ≡ 48 → length word ≡ 1 = λ first. elim c.else-word-eq48.either [ inl p ↦ omega (arith, some, p.1) | inr p ↦ absurd (p first) ] in
    decimal_again word c.number_of.result c.number_of.ensures.found c.number_of.ensures.none some leading
