use Rattle.std.proofs.Common.{◌≡◌, ◌*◌, ◌+◌, get_or, arith}
use Rattle.std.specs.Char.{digit_value}
use Rattle.ltx_text.proofs.DecimalLemmas.{digit_is, digit_there, digits_before, no_digit, too_large, value_next}
use Rattle.ltx_text.proofs.decimals.number_of.Goals as goal

pub returns-then-not-is_ascii_digit-clause-none : goal.returns-then-not-is_ascii_digit-clause-none
returns-then-not-is_ascii_digit-clause-none c =
    let i = c.loop-digit.digit-index in
    λ all. absurd (no_digit (get_or c.args.digits.now i 0) c.if-not-is_ascii_digit.ensures.value (digit_there c.args.digits.now i c.loop-digit-test.true (c.loop-digit.invariant.rest all)).0)

pub returns-in_err-checked_mul-clause-none : goal.returns-in_err-checked_mul-clause-none
returns-in_err-checked_mul-clause-none c =
    let past = c.in_err-checked_mul.ensures in
    rw c.from_residual.ensures (λ all.
    let whole = too_large c.loop-digit.n _ c.args.digits.now c.loop-digit.digit-index c.loop-digit-test.true c.loop-digit.invariant.value in omega (arith, past, whole))

pub returns-in_err-n-clause-none : goal.returns-in_err-n-clause-none
returns-in_err-n-clause-none c =
    let past = c.in_err-n.ensures in
    let digit = digit_is (get_or c.args.digits.now c.loop-digit.digit-index 0) c.if-not-is_ascii_digit.ensures.value in
    rw c.from_residual-in_err-n.ensures (λ all.
    let whole = too_large c.loop-digit.n _ c.args.digits.now c.loop-digit.digit-index c.loop-digit-test.true c.loop-digit.invariant.value in
    omega (arith, past, whole, digit.1, c.in_ok-checked_mul.ensures.1, c.from.ensures))

pub loop-digit-preserved : goal.loop-digit-preserved
loop-digit-preserved c =
    let ds = c.args.digits.now in
    let i = c.loop-digit.digit-index in
    let digit = digit_is (get_or ds i 0) c.if-not-is_ascii_digit.ensures.value in
    let n : c.in_ok-n.n ≡ c.loop-digit.n * 10 + digit_value (get_or ds i 0) = omega (arith, digit.1, c.in_ok-checked_mul.ensures.1, c.from.ensures, c.in_ok-n.ensures.1) in
    record {
      fits = omega (arith, c.in_ok-n.ensures.0, c.in_ok-n.ensures.1);
      value = rw n (value_next c.loop-digit.n _ ds i c.loop-digit-test.true c.loop-digit.invariant.value);
      all = λ rest. c.loop-digit.invariant.all (digits_before ds i c.loop-digit-test.true digit.0 rest);
      rest = λ all. (digit_there ds i c.loop-digit-test.true (c.loop-digit.invariant.rest all)).1;
    }
