-- Texts that stand for what is written so, and for nothing else.
use Rattle.std.specs.Prelude.{ℕ, Bool, ◌&&◌, nat_lt, nat_le, Option, Some, None, length, if◌then◌else◌}
use Rattle.std.specs.declared.result.Result.{Result}
use Rattle.std.specs.declared.result.Result.TheVariants.{Ok, Err}
use Rattle.std.specs.List.{list_all}
use Rattle.std.specs.Str.{bytes_eq}
use Rattle.std.specs.Str.Parse.{digits_value}
use Rattle.quantity.specs.ByteNames.{digit_nine, digit_zero}
use Rattle.quantity.specs.Bytes.{Bytes}

-- a guess at what is written, if the text is just what is written for it
abbrev pub if_written : {A : Type 0} → (A → Bytes) → Bytes → Option A → Option A
if_written write text None = None
if_written write text (Some x) = if bytes_eq (write x) text then Some x else None

-- a decimal digit
abbrev pub is_digit : ℕ → Bool
is_digit c = nat_le digit_zero c && nat_le c digit_nine

-- the number, where it is at most so large
abbrev pub number_at_most : ℕ → ℕ → Option ℕ
number_at_most most n = if nat_le n most then Some n else None

-- the number of at least one digit, where it is at most so large
abbrev pub number_up_to : ℕ → Bytes → Option ℕ
number_up_to most text =
    if list_all is_digit text && nat_lt 0 (length text)
    then number_at_most most (digits_value 10 text) else None

-- what is made of a value, where there is one
abbrev pub for_some : {A B : Type 0} → Option A → (A → Option B) → Option B
for_some None go = None
for_some (Some x) go = go x

-- what is made of a value, where nothing was refused
abbrev pub for_ok : {A B E : Type 0} → Result A E → (A → Result B E) → Result B E
for_ok (Ok x) go = go x
for_ok (Err why) go = Err why
