-- Times as texts: as people write them, and as logs have them.
use Rattle.std.specs.Prelude.{ℕ, ◌+◌, ◌*◌, ◌/◌, ◌%◌, ◌&&◌, ◌==◌, nat_lt, min, Option, None, Some, List, ◌∷◌, if◌then◌else◌, decimal, []}
use Rattle.std.specs.List.{slice_split, join_with_byte}
use Rattle.std.specs.Bool.{then_some}
use Rattle.std.specs.Option.{option_and_then}
use Rattle.quantity.specs.declared.bounds.TheConstants.{MAX_TIME}
use Rattle.quantity.specs.ByteNames.{colon}
use Rattle.quantity.specs.Bytes.{Bytes, all_there}
use Rattle.quantity.specs.Digits.{whole_number, last_digits}
use Rattle.quantity.specs.Written.{if_written, number_at_most}

-- the lesser of two numbers, of times or of lines, and the one that there is
abbrev pub earlier : Option ℕ → Option ℕ → Option ℕ
earlier None n = n
earlier (Some m) None = Some m
earlier (Some m) (Some n) = Some (min m n)

-- hours, minutes, seconds and milliseconds in milliseconds; minutes and seconds are below 60
abbrev pub milliseconds_of : List ℕ → Option ℕ
milliseconds_of (h ∷ m ∷ s ∷ ms ∷ []) =
    then_some (nat_lt m 60 && nat_lt s 60) (((h * 60 + m) * 60 + s) * 1000 + ms)
milliseconds_of ns = None

-- the numbers of hours of at most so many digits, of minutes, seconds and milliseconds
abbrev pub numbers_in : ℕ → Bytes → Bytes → Bytes → Bytes → Option (List ℕ)
numbers_in most h m s ms =
    all_there (whole_number most h ∷ whole_number 2 m ∷ whole_number 2 s ∷ whole_number 3 ms ∷ [])

-- the same of a list of four texts
abbrev pub parsed_parts : ℕ → List Bytes → Option (List ℕ)
parsed_parts most (h ∷ m ∷ s ∷ ms ∷ []) = numbers_in most h m s ms
parsed_parts most texts = None

-- the milliseconds of a time with : between its parts
abbrev pub milliseconds_in : ℕ → Bytes → Option ℕ
milliseconds_in most text =
    option_and_then milliseconds_of (parsed_parts most (slice_split (λ c. c == colon) text))

-- a time as people write it: hours below 100
abbrev pub time_in : Bytes → Option ℕ
time_in text = milliseconds_in 2 text

-- at least two digits
abbrev pub hours_text : ℕ → Bytes
hours_text n = if nat_lt n 100 then last_digits 2 n else decimal n

-- the texts of hours, minutes, seconds and milliseconds
abbrev pub time_parts : ℕ → List Bytes
time_parts ms =
    hours_text (ms / 3600000) ∷ last_digits 2 (ms / 60000 % 60) ∷ last_digits 2 (ms / 1000 % 60)
    ∷ last_digits 3 (ms % 1000) ∷ []

-- a time as logs have it: hh:mm:ss:mmm
abbrev pub time_text : ℕ → Bytes
time_text ms = join_with_byte colon (time_parts ms)

-- the time of these parts, where it is one
abbrev pub time_of : List Bytes → Option ℕ
time_of parts =
    option_and_then (number_at_most MAX_TIME)
    (option_and_then milliseconds_of (parsed_parts 3 parts))

-- a time as it is written, and as nothing else is
abbrev pub read_time : Bytes → Option ℕ
read_time text = if_written time_text text (time_of (slice_split (λ c. c == colon) text))
