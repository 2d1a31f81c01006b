-- Values at ports, and whether a time is due.
use Rattle.std.specs.Prelude.{ℕ, ◌==◌, Bool, false, Option, Some, None, List, [], ◌∷◌}
use Rattle.quantity.specs.declared.value.Value.{Value}
use Rattle.atomic_face.specs.declared.class.PortNo.{PortNo}

-- values at ports, in order
abbrev pub Bag : Type 0
Bag = List (PortNo × Value)

-- the port out, the only output port of each class
abbrev pub out_port : PortNo
out_port = record { 0 = 0 }

-- these values at the port out, in order
abbrev pub outputs : List Value → Bag
outputs [] = []
outputs (v ∷ vs) = (out_port, v) ∷ outputs vs

-- a time that is there and is this one
abbrev pub is_at : ℕ → Option ℕ → Bool
is_at t None = false
is_at t (Some n) = n == t

-- both times are there and are the same
abbrev pub same_time : Option ℕ → Option ℕ → Bool
same_time None b = false
same_time (Some t) b = is_at t b
