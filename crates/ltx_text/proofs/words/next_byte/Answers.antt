use Rattle.std.proofs.Common.{◌≡◌, ◌∙◌, ℕ, List, ◌∷◌, ◌/◌, ◌%◌, false, ap, sym, length, arith}
use Rattle.ltx_text.specs.Words.{hex_digit, is_plain}
use Rattle.ltx_text.proofs.WordLemmas.{plain_begins, escape_begins, is_escape, spelling_lengthens}
use Rattle.ltx_text.proofs.words.next_byte.Goals as goal

pub returns-in_err-first-clause-none : goal.returns-in_err-first-clause-none
returns-in_err-first-clause-none c =
    let none = c.in_err-first.ensures.cases in
    rw c.from_residual.ensures (λ b rest low same. omega (arith, none, ap length same, spelling_lengthens b rest))

pub returns-then-is_plain-clause-found : goal.returns-then-is_plain-clause-found
returns-then-is_plain-clause-found c =
    plain_begins c.in_ok-first.first.now c.in_ok-first.after.now c.args.text.now (sym c.is_plain.ensures ∙ c.if-is_plain.true) c.in_ok-first.ensures.cases.0

pub returns-in_err-high-clause-none : goal.returns-in_err-high-clause-none
returns-in_err-high-clause-none c =
    let first = c.in_ok-first.first.now in
    let none = c.in_err-high.ensures.cases in
    let escaped : is_plain first ≡ false = sym c.is_plain.ensures ∙ c.if-is_plain.false in
    rw c.from_residual-in_err-high.ensures (λ b rest low same.
    let e = is_escape b first c.in_ok-first.after.now rest c.args.text.now c.in_ok-first.ensures.cases.0 escaped same in
    omega (arith, none, ap length e.digits))

pub returns-in_err-low-clause-none : goal.returns-in_err-low-clause-none
returns-in_err-low-clause-none c =
    let first = c.in_ok-first.first.now in
    let none = c.in_err-low.ensures.cases in
    let second = c.in_ok-high.ensures.cases.1 in
    let escaped : is_plain first ≡ false = sym c.is_plain.ensures ∙ c.if-is_plain.false in
    rw c.from_residual-in_err-low.ensures (λ b rest low same.
    let e = is_escape b first c.in_ok-first.after.now rest c.args.text.now c.in_ok-first.ensures.cases.0 escaped same in
    omega (arith, none, second, ap length e.digits))

pub returns-then-first-ne37-clause-none : goal.returns-then-first-ne37-clause-none
returns-then-first-ne37-clause-none c =
    let first = c.in_ok-first.first.now in
    let escaped : is_plain first ≡ false = sym c.is_plain.ensures ∙ c.if-is_plain.false in
    λ b rest low same.
    let e = is_escape b first c.in_ok-first.after.now rest c.args.text.now c.in_ok-first.ensures.cases.0 escaped same in
    c.if-first-ne37.true e.percent

pub returns-in_err-escaped_byte-clause-none : goal.returns-in_err-escaped_byte-clause-none
returns-in_err-escaped_byte-clause-none c =
    let first = c.in_ok-first.first.now in
    let none = c.in_err-escaped_byte.ensures.none in
    let escaped : is_plain first ≡ false = sym c.is_plain.ensures ∙ c.if-is_plain.false in
    let two = c.in_ok-high.ensures.cases.0 in
    let three = c.in_ok-low.ensures.cases.0 in
    rw c.from_residual-in_err-escaped_byte.ensures (λ b rest low same.
    let e = is_escape b first c.in_ok-first.after.now rest c.args.text.now c.in_ok-first.ensures.cases.0 escaped same in
    let whole = sym two ∙ e.digits in
    let digits = ap (λ (t : List ℕ). c.in_ok-high.high.now ∷ t) three in
    let both : c.in_ok-high.high.now ∷ c.in_ok-low.low.now ∷ c.in_ok-low.after.now ≡ hex_digit (b / 16) ∷ hex_digit (b % 16) ∷ rest = sym digits ∙ whole in
    let upper : hex_digit (b / 16) ≡ c.in_ok-high.high.now = cc in
    let lower : hex_digit (b % 16) ≡ c.in_ok-low.low.now = cc in
    none b low e.escaped upper lower)

pub returns-clause-found : goal.returns-clause-found
returns-clause-found c =
    let found = c.in_ok-escaped_byte.ensures.found in
    escape_begins _ c.in_ok-high.high.now c.in_ok-low.low.now c.in_ok-first.first.now c.in_ok-first.after.now c.in_ok-high.after.now c.in_ok-low.after.now c.args.text.now
    c.in_ok-first.ensures.cases.0 c.in_ok-high.ensures.cases.0 c.in_ok-low.ensures.cases.0 c.if-first-ne37.false found.0 found.1 found.2
