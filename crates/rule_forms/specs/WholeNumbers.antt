-- Values that are whole numbers.
use Rattle.std.specs.Prelude.{ℕ, ◌/◌, ◌%◌, ◌==◌, Option, Some, None, pos, negsuc, if◌then◌else◌}
use Rattle.quantity.specs.declared.value.Value.{Value}
use Rattle.quantity.specs.declared.value.Value.TheVariants.{Undefined, Num}

-- the whole number that a value is, if it is one that isn't negative
abbrev pub whole_number_in : Value → Option ℕ
whole_number_in Undefined = None
whole_number_in (Num (pos n)) = if n % 100000 == 0 then Some (n / 100000) else None
whole_number_in (Num (negsuc n)) = None
