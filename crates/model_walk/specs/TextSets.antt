-- Texts of which none stands twice.
use Rattle.std.specs.Prelude.{List, [], ◌∷◌, ◌++◌, if◌then◌else◌}
use Rattle.quantity.specs.Bytes.{Bytes, is_among}

-- with a text more at the end, unless it is there
abbrev pub with_text : List Bytes → Bytes → List Bytes
with_text ts t = if is_among ts t then ts else ts ++ t ∷ []
