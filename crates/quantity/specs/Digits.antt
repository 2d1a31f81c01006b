-- Whole numbers in texts, and their digits.
use Rattle.std.specs.Prelude.{ℕ, zero, suc, ◌+◌, ◌-◌, ◌*◌, ◌/◌, ◌%◌, ◌==◌, Bool, ◌&&◌, ◌||◌, nat_le, Option, List, [], ◌∷◌, ◌++◌, length, ℤ, pos, neg_ℤ, if◌then◌else◌}
use Rattle.std.specs.List.{fold}
use Rattle.std.specs.Bool.{then_some}
use Rattle.std.specs.Option.{option_map, option_and_then}
use Rattle.std.specs.Str.{all_ascii_digits}
use Rattle.quantity.specs.ByteNames.{digit_zero, minus_sign, plus_sign}
use Rattle.quantity.specs.Bytes.{Bytes, begins_with}

-- at least the first number and at most the second
abbrev pub is_between : ℕ → ℕ → ℕ → Bool
is_between low high n = nat_le low n && nat_le n high

-- a list of at least so many items and at most so many
abbrev pub has_length : {A : Type 0} → ℕ → ℕ → List A → Bool
has_length low high xs = is_between low high (length xs)

-- at least so many decimal digits, at most so many, and nothing else
abbrev pub are_digits : ℕ → ℕ → Bytes → Bool
are_digits least most text = has_length least most text && all_ascii_digits text

-- the number that decimal digits stand for
abbrev pub number_in : Bytes → ℕ
number_in digits = fold (λ n c. n * 10 + (c - digit_zero)) 0 digits

-- a number of 1 to so many digits
abbrev pub whole_number : ℕ → Bytes → Option ℕ
whole_number most text = then_some (are_digits 1 most text) (number_in text)

-- the same, where the number lies in these bounds
abbrev pub number_between : ℕ → ℕ → ℕ → Bytes → Option ℕ
number_between most low high text =
    option_and_then (λ n. then_some (is_between low high n) n) (whole_number most text)

-- what follows the sign at the head of the text, if there is one
abbrev pub without_sign : Bytes → Bytes
without_sign [] = []
without_sign (c ∷ cs) = if (c == plus_sign) || (c == minus_sign) then cs else c ∷ cs

-- the number, below zero where the text begins with a minus
abbrev pub with_sign_of : Bytes → ℤ → ℤ
with_sign_of text n = if begins_with minus_sign text then neg_ℤ n else n

-- a number of 1 to so many digits after an optional sign
abbrev pub signed_number : ℕ → Bytes → Option ℤ
signed_number most text =
    option_map (λ n. with_sign_of text (pos n)) (whole_number most (without_sign text))

-- the last k decimal digits of a number
abbrev pub last_digits : ℕ → ℕ → Bytes
last_digits zero n = []
last_digits (suc k) n = last_digits k (n / 10) ++ (digit_zero + n % 10) ∷ []
