-- Which number stands for a value, a time or a number, and which for none.
use Rattle.std.specs.Prelude.{◌≡◌, ℕ, ◌==◌, nat_le, Option, None, Some, ℤ, pos, unsigned_abs, if◌then◌else◌, refl}
use Rattle.std.specs.Int.{w64, cast_signed, cast_unsigned, from_le_bytes, to_le_bytes}
use Rattle.std.proofs.Common.{List, sym, ap, inl, inr}
use Rattle.std.proofs.lemmas.Bool.Decides.{eqb_tells}
use Rattle.quantity.specs.declared.bounds.TheConstants.{MAX_RAW, MAX_TIME}
use Rattle.quantity.specs.declared.value.Value.{Value}
use Rattle.quantity.specs.declared.value.Value.TheVariants.{Undefined, Num}

-- ---- numbers

-- the greatest number of 32 bits stands for none
abbrev pub number_at : ℕ → Option ℕ
number_at number = if number == 4294967295 then None else Some number

abbrev pub number_of : Option ℕ → ℕ
number_of None = 4294967295
number_of (Some number) = number

pub told_number : {A : Type 0} (number : ℕ) (f : ℕ → A) → f (number_of (number_at number)) ≡ f number
told_number number f =
    elim (eqb_tells number 4294967295) [
      | inl same ↦ rw same.0 (ap f (sym same.1))
      | inr other ↦ rw other.0 refl
    ]

-- ---- times

-- milliseconds that no time has stand for none
abbrev pub time_at : ℕ → Option ℕ
time_at ms = if nat_le ms MAX_TIME then Some ms else None

abbrev pub ms_of : Option ℕ → ℕ
ms_of None = 4294967295
ms_of (Some ms) = ms

pub same_number : {A : Type 0} (number told : ℕ) (f : ℕ → A) → told ≡ number → f told ≡ f number
same_number number told f is = ap f is

-- ---- values

-- hundred-thousandths that no value has stand for ?
abbrev pub value_at : ℤ → Value
value_at raw = if nat_le (unsigned_abs raw) MAX_RAW then Num raw else Undefined

abbrev pub raw_of : Value → ℤ
raw_of Undefined = pos 9223372036854775807
raw_of (Num raw) = raw

-- and of these only the greatest, where there may be no value
abbrev pub choice_at : ℤ → Option Value
choice_at raw =
    if nat_le (unsigned_abs raw) MAX_RAW then Some (Num raw)
    else (if unsigned_abs raw == 9223372036854775807 then Some Undefined else None)

abbrev pub raw_of_choice : Option Value → ℤ
raw_of_choice None = pos 9223372036854775806
raw_of_choice (Some value) = raw_of value

pub same_raw : {A : Type 0} (raw told : ℤ) (f : ℤ → A) → told ≡ raw → f told ≡ f raw
same_raw raw told f is = ap f is

-- ---- values as bytes

abbrev pub raw_in : List ℕ → ℤ
raw_in bytes = cast_signed w64 (from_le_bytes w64 bytes)

abbrev pub bytes_of : ℤ → List ℕ
bytes_of raw = to_le_bytes w64 (cast_unsigned w64 raw)

pub same_bytes : {A : Type 0} (bytes told : List ℕ) (f : List ℕ → A) → told ≡ bytes → f told ≡ f bytes
same_bytes bytes told f is = ap f is
