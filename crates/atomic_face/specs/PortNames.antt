-- Ports of a class by their names.
use Rattle.std.specs.Prelude.{Option, List, ◌∷◌, codes, []}
use Rattle.std.specs.List.{position}
use Rattle.std.specs.Bool.{then_some}
use Rattle.std.specs.Option.{option_map}
use Rattle.std.specs.Str.{bytes_eq}
use Rattle.quantity.specs.Bytes.{Bytes}
use Rattle.atomic_face.specs.declared.class.Class.{Class}
use Rattle.atomic_face.specs.declared.class.PortNo.{PortNo}
use Rattle.atomic_face.specs.Bags.{out_port}
use Rattle.atomic_face.specs.ClassNames.{class_ports}

-- the output ports, by number
abbrev pub class_outputs : Class → List Bytes
class_outputs class = codes "out" ∷ []

-- the number of a port that is called so among these
abbrev pub place_among : List Bytes → Bytes → Option PortNo
place_among ports name = option_map (λ n. record { 0 = n }) (position (bytes_eq name) ports)

-- the input port of a name, where the class has one
abbrev pub port_named : Class → Bytes → Option PortNo
port_named class name = place_among (class_ports class) name

-- each class has the one output port out
abbrev pub output_named : Bytes → Option PortNo
output_named name = then_some (bytes_eq name (codes "out")) out_port
