use Rattle.std.proofs.Common.{◌≡◌, ◌<◌, ◌^◌, drop}
use Rattle.std.specs.Str.Parse.{AllDigits, digits_value, digits_value_after}
use Rattle.ltx_text.proofs.decimals.number_of.Given as goal

-- the number so far and the digits to come write the whole number
abbrev pub invariant-loop-digit : goal.invariant-loop-digit
invariant-loop-digit l = record {
  fits : l.n < 2 ^ 64;
  value : digits_value_after 10 l.n (drop l.digit-index l.digits) ≡ digits_value 10 l.digits;
  all : AllDigits 10 (drop l.digit-index l.digits) → AllDigits 10 l.digits;
  rest : AllDigits 10 l.digits → AllDigits 10 (drop l.digit-index l.digits);
}
