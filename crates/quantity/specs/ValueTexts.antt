-- Values as texts, and the texts read back.
use Rattle.std.specs.Prelude.{ℕ, zero, suc, ◌-◌, ◌/◌, ◌^◌, Bool, true, false, ◌&&◌, ◌==◌, nat_lt, Option, Some, None, ◌∷◌, ◌++◌, length, replicate, ℤ, pos, negsuc, neg_ℤ, unsigned_abs, if◌then◌else◌, codes, decimal, []}
use Rattle.std.specs.Option.{option_and_then}
use Rattle.std.specs.Str.{bytes_eq}
use Rattle.quantity.specs.declared.value.Value.{Value}
use Rattle.quantity.specs.declared.value.Value.TheVariants.{Undefined, Num}
use Rattle.quantity.specs.Arithmetic.{value_in_bounds}
use Rattle.quantity.specs.ByteNames.{minus_sign, space_character}
use Rattle.quantity.specs.Bytes.{Bytes}
use Rattle.quantity.specs.Literals.{signed_raw}
use Rattle.quantity.specs.Digits.{last_digits}
use Rattle.quantity.specs.Written.{number_up_to}

-- the size that is shown, in units of the last decimal
abbrev pub shown_size : ℕ → ℤ → ℕ
shown_size decimals x = unsigned_abs x / 10 ^ (5 - decimals)

-- the number has a minus
abbrev pub is_below_zero : ℤ → Bool
is_below_zero (pos n) = false
is_below_zero (negsuc n) = true

-- a minus or nothing
abbrev pub minus_if : Bool → Bytes
minus_if b = if b then codes "-" else []

-- the point and the decimals, where there are any
abbrev pub fraction_text : ℕ → ℕ → Bytes
fraction_text zero size = []
fraction_text (suc k) size = codes "." ++ last_digits (suc k) size

-- a number with so many decimals, cut toward zero; where it is cut to zero it has no sign
abbrev pub number_text : ℕ → ℤ → Bytes
number_text decimals x =
    let size = shown_size decimals x in
    minus_if (is_below_zero x && nat_lt 0 size) ++ decimal (size / 10 ^ decimals)
    ++ fraction_text decimals size

-- a value with so many decimals
abbrev pub decimals_text : ℕ → Value → Bytes
decimals_text decimals Undefined = codes "?"
decimals_text decimals (Num x) = number_text decimals x

-- a text right in this many places; a longer text stays whole
abbrev pub in_width : ℕ → Bytes → Bytes
in_width width text = replicate (width - length text) space_character ++ text

-- a value with so many decimals, right in so many places
abbrev pub value_text : ℕ → ℕ → Value → Bytes
value_text decimals width v = in_width width (decimals_text decimals v)

-- a value with five decimals
abbrev pub text5 : Value → Bytes
text5 v = decimals_text 5 v

-- the same number, as one that can be below zero
abbrev pub positive : Option ℕ → Option ℤ
positive None = None
positive (Some n) = Some (pos n)

-- the number below zero
abbrev pub negative : Option ℕ → Option ℤ
negative None = None
negative (Some n) = Some (neg_ℤ (pos n))

-- a whole number with an optional -, whose size is at most this
abbrev pub signed_in : ℕ → Bytes → Option ℤ
signed_in most [] = None
signed_in most (c ∷ cs) =
    if c == minus_sign then negative (number_up_to most cs)
    else positive (number_up_to most (c ∷ cs))

-- a value that the program writes: a number has at most 11 digits before its point
abbrev pub guessed_value : Bytes → Option Value
guessed_value text =
    if bytes_eq text (codes "?") then Some Undefined
    else option_and_then value_in_bounds (signed_raw 11 text)
