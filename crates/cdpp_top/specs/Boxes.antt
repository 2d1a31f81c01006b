-- The boxes that are handed in.
use Rattle.std.specs.Prelude.{List, map}
use Rattle.atomic_face.specs.declared.class.Class.{Class}
use Rattle.atomic_face.specs.Held.{Held}

-- the classes of boxes, by what each of them means
abbrev pub classes_by : {X : Type 0} → (X → Held) → List X → List Class
classes_by held boxes = map (λ b. (held b).kind) boxes
