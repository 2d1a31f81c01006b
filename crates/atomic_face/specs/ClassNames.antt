-- The names of classes and of their ports.
use Rattle.std.specs.Prelude.{Option, List}
use Rattle.std.specs.List.{find}
use Rattle.std.specs.Str.{bytes_eq}
use Rattle.quantity.specs.Bytes.{Bytes}
use Rattle.atomic_face.specs.declared.class.Class.{Class}
use Rattle.atomic_face.specs.ClassTable.{all_classes, rules_of}

-- the name by which model files call a class
abbrev pub class_name : Class → Bytes
class_name class = (rules_of class).name

-- the class of a name, where there is one
abbrev pub class_named : Bytes → Option Class
class_named text = find (λ c. bytes_eq (class_name c) text) all_classes

-- the input ports, by number
abbrev pub class_ports : Class → List Bytes
class_ports class = (rules_of class).inputs
