-- Decimals: the one spelling of a number in digits.
use Rattle.std.specs.Prelude.{ℕ, ◌&&◌, nat_lt, nat_le, if◌then◌else◌, List, Option, Some, None, bytes_eq, decimal}
use Rattle.std.specs.Str.Parse.{digits_value}

-- the digits of a number as `{}` prints it: no sign and no leading zero, and zero is `0`
abbrev pub decimal_of : ℕ → List ℕ
decimal_of n = decimal n

-- the number with this decimal, from the first on and below another
unfoldable pub number_in : ℕ → ℕ → List ℕ → Option ℕ
number_in first past word =
    if nat_le first (digits_value 10 word) && nat_lt (digits_value 10 word) past && bytes_eq (decimal_of (digits_value 10 word)) word
    then Some (digits_value 10 word)
    else None
