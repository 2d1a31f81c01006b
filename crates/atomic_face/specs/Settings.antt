-- The settings that parameters give a class, and the lines of parameters that are off their form.
use Rattle.std.specs.Prelude.{ℕ, min, Option, Some, None, List, ◌∷◌, ℤ, []}
use Rattle.std.specs.Option.{option_map, unwrap_or}
use Rattle.quantity.specs.Bytes.{Bytes}
use Rattle.atomic_face.specs.declared.class.Class.{Class}
use Rattle.atomic_face.specs.declared.params.Param.{Param}
use Rattle.atomic_face.specs.ClassTable.{rules_of}

-- the keys that stand at most once
abbrev pub once_keys : Class → List Bytes
once_keys class = (rules_of class).once_keys

-- the settings that parameters give a class
abbrev pub settings_of : Class → List Param → List ℤ
settings_of class = (rules_of class).settings

-- the lines on which any parameter of a class is off its form
abbrev pub lines_off : Class → List Param → List ℕ
lines_off class = (rules_of class).lines_off

-- the least of some lines, where there is one
abbrev pub least_line : List ℕ → Option ℕ
least_line [] = None
least_line (n ∷ ns) = Some (unwrap_or (option_map (min n) (least_line ns)) n)

-- the least line of a parameter that is off its form
abbrev pub first_line_off : Class → List Param → Option ℕ
first_line_off class ps = least_line (lines_off class ps)
