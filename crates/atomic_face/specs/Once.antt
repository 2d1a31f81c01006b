-- Which keys of a class stand once.
use Rattle.std.specs.Prelude.{not, Bool, List, map}
use Rattle.std.specs.List.{filter}
use Rattle.quantity.specs.Bytes.{has_repeat, is_among}
use Rattle.atomic_face.specs.declared.class.Class.{Class}
use Rattle.atomic_face.specs.declared.params.Param.{Param}
use Rattle.atomic_face.specs.Settings.{once_keys}

-- no key that stands once stands again
abbrev pub are_once : Class → List Param → Bool
are_once class ps =
    not (has_repeat (filter (is_among (once_keys class)) (map (λ (p : Param). p.key) ps)))
