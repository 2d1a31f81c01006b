-- Private: words of a line, each after a blank.
use Rattle.std.specs.Prelude.{List, ◌∷◌}
use Rattle.std.specs.List.{flat_map}
use Rattle.quantity.specs.Bytes.{Bytes}

-- a blank before each word
abbrev pub spaced_words : List Bytes → Bytes
spaced_words ws = flat_map (λ w. 32 ∷ w) ws
