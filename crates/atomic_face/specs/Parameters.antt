-- Parameters of one number each: what they give, their lines that are off their form, and settings
-- by their places.
use Rattle.std.specs.Prelude.{ℕ, not, ◌&&◌, Bool, nat_le, Option, None, ℤ, pos, negsuc}
use Rattle.std.specs.Prelude.{List, [], ◌∷◌, map, slice_get}
use Rattle.std.specs.List.{filter, find, flat_map}
use Rattle.std.specs.Option.{option_map, option_and_then, unwrap_or, is_some}
use Rattle.std.specs.Bool.{then_some}
use Rattle.std.specs.Str.{bytes_eq}
use Rattle.quantity.specs.Bytes.{Bytes}
use Rattle.quantity.specs.Digits.{whole_number}
use Rattle.quantity.specs.Literals.{value_in}
use Rattle.quantity.specs.Times.{time_in}
use Rattle.atomic_face.specs.declared.params.Param.{Param}
use Rattle.atomic_face.specs.Words.{word_of, natural_in}

-- a key, the number that a value of it gives, and the number where the key is absent
pub record Parameter : Type 0 where
  pub key : Bytes
  pub word : Bytes → Option ℤ
  pub default : ℤ

-- a parameter with these parts
abbrev pub parameter : Bytes → (Bytes → Option ℤ) → ℤ → Parameter
parameter key word default = record { key = key; word = word; default = default }

-- the number of a time
abbrev pub time_word : Bytes → Option ℤ
time_word text = option_map (λ n. pos n) (time_in text)

-- a number, where it is at least 1
abbrev pub at_least_one : ℤ → Option ℤ
at_least_one (pos n) = then_some (nat_le 1 n) (pos n)
at_least_one (negsuc n) = None

-- the number of a time that is not 0
abbrev pub period_word : Bytes → Option ℤ
period_word text = option_and_then at_least_one (time_word text)

-- the number of a value
abbrev pub value_word : Bytes → Option ℤ
value_word text = option_map word_of (value_in text)

-- a whole number of at most 9 digits that is not 0
abbrev pub count_word : Bytes → Option ℤ
count_word text = option_and_then (λ n. at_least_one (pos n)) (whole_number 9 text)

-- ---- what parameters give

-- the keys of these parameters
abbrev pub keys_of : List Parameter → List Bytes
keys_of parameters = map (λ (p : Parameter). p.key) parameters

-- the number of a parameter's value, or the default where there is none
abbrev pub setting_of : List Param → Parameter → ℤ
setting_of ps p =
    unwrap_or
    (option_and_then (λ (e : Param). p.word e.value)
    (find (λ (e : Param). bytes_eq e.key p.key) ps)) p.default

-- the numbers that these parameters give, in order
abbrev pub settings_by : List Parameter → List Param → List ℤ
settings_by parameters ps = map (setting_of ps) parameters

-- a value of this key that is off its form
abbrev pub is_parameter_off : Parameter → Param → Bool
is_parameter_off p e = bytes_eq e.key p.key && not (is_some (p.word e.value))

-- the lines on which a parameter is off its form
abbrev pub lines_off_of : List Param → Parameter → List ℕ
lines_off_of ps p = map (λ (e : Param). e.line) (filter (is_parameter_off p) ps)

-- the lines on which any of these parameters is off its form
abbrev pub lines_off_by : List Parameter → List Param → List ℕ
lines_off_by parameters ps = flat_map (lines_off_of ps) parameters

-- ---- settings by their places

-- the setting that stands first, as a time
abbrev pub time_setting : List ℤ → ℕ
time_setting [] = 0
time_setting (w ∷ ws) = natural_in w

-- the setting at a place; 0 where there is none
abbrev pub setting : List ℤ → ℕ → ℤ
setting settings n = unwrap_or (slice_get settings n) (pos 0)
