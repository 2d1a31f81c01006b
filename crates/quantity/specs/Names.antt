-- Names: of components, ports and rules.
use Rattle.std.specs.Prelude.{ℕ, ◌==◌, Bool, ◌&&◌, ◌||◌}
use Rattle.std.specs.List.{list_all}
use Rattle.std.specs.Char.{is_ascii_digit, is_ascii_lowercase}
use Rattle.quantity.specs.ByteNames.{full_stop, minus_sign, underscore}
use Rattle.quantity.specs.Bytes.{Bytes}
use Rattle.quantity.specs.Digits.{has_length}

-- a lower-case letter, a digit, _, - or .
abbrev pub is_of_name : ℕ → Bool
is_of_name c =
    is_ascii_lowercase c || is_ascii_digit c || (c == underscore) || (c == minus_sign)
    || (c == full_stop)

-- 1 to 64 bytes of lower-case letters, digits, _, - and .
abbrev pub is_name : Bytes → Bool
is_name text = has_length 1 64 text && list_all is_of_name text
