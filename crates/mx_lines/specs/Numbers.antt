use Rattle.std.specs.Prelude.{◌&&◌, ◌^◌, ℕ, Bool, Option, Some, None, length, nat_lt, if◌then◌else◌}
use Rattle.std.specs.Str.{all_ascii_digits}
use Rattle.std.specs.Str.Parse.{digits_value, without_leading_plus}
use Rattle.mx_plan.specs.Text.{Text}

-- decimal digits, at least one, that write a number of 64 bits
abbrev pub is_number : Text → Bool
is_number digits =
    nat_lt 0 (length digits)
    && (all_ascii_digits digits && nat_lt (digits_value 10 digits) (2 ^ 64))

-- the number of 64 bits that a text writes, or `None` if it writes none. A plus may come before the
-- digits
abbrev pub number_of : Text → Option ℕ
number_of text =
    if is_number (without_leading_plus text)
    then Some (digits_value 10 (without_leading_plus text)) else None
