-- Values as people write them.
use Rattle.std.specs.Prelude.{ℕ, ◌+◌, ◌*◌, Bool, not, ◌&&◌, ◌||◌, Option, Some, ◌++◌, take, replicate, ℤ, pos, if◌then◌else◌, codes}
use Rattle.std.specs.List.{before_first, after_first}
use Rattle.std.specs.Bool.{then_some}
use Rattle.std.specs.Option.{option_map}
use Rattle.std.specs.Str.{bytes_eq, all_ascii_digits}
use Rattle.quantity.specs.declared.value.Value.{Value}
use Rattle.quantity.specs.declared.value.Value.TheVariants.{Undefined, Num}
use Rattle.quantity.specs.ByteNames.{digit_zero, full_stop}
use Rattle.quantity.specs.Bytes.{Bytes, is_empty, is_byte}
use Rattle.quantity.specs.Digits.{are_digits, number_in, without_sign, with_sign_of}

-- what stands before the point
abbrev pub whole_digits : Bytes → Bytes
whole_digits text = before_first (is_byte full_stop) text

-- what stands after the point
abbrev pub decimals : Bytes → Bytes
decimals text = after_first (is_byte full_stop) text

-- 1 to so many digits with an optional point and any digits, or a point and at least one digit
abbrev pub is_number_of : ℕ → Bytes → Bytes → Bool
is_number_of most whole decimals =
    all_ascii_digits decimals && (are_digits 1 most whole
    || (is_empty whole && not (is_empty decimals)))

-- the same of the text's own two parts
abbrev pub is_number_text : ℕ → Bytes → Bool
is_number_text most text = is_number_of most (whole_digits text) (decimals text)

-- a number as people write it, without its sign
abbrev pub is_unsigned_literal : Bytes → Bool
is_unsigned_literal text = is_number_text 10 text

-- the hundred-thousandths of a number: decimals after the fifth are cut
abbrev pub raw_in : Bytes → ℕ
raw_in text =
    number_in (whole_digits text) * 100000
    + number_in (take 5 (decimals text ++ replicate 5 digit_zero))

-- the hundred-thousandths of a number of at most so many digits before its point
abbrev pub unsigned_raw : ℕ → Bytes → Option ℕ
unsigned_raw most text = then_some (is_number_text most text) (raw_in text)

-- the same after an optional sign
abbrev pub signed_raw : ℕ → Bytes → Option ℤ
signed_raw most text =
    option_map (λ n. with_sign_of text (pos n)) (unsigned_raw most (without_sign text))

-- the hundred-thousandths of a number as people write it, without its sign
abbrev pub unsigned_literal : Bytes → Option ℤ
unsigned_literal text = then_some (is_unsigned_literal text) (pos (raw_in text))

-- a number as people write it
abbrev pub literal : Bytes → Option Value
literal text = option_map (λ n. Num (with_sign_of text n)) (unsigned_literal (without_sign text))

-- a literal or ?
abbrev pub value_in : Bytes → Option Value
value_in text = if bytes_eq text (codes "?") then Some Undefined else literal text
