-- The classes, and the record of each.
use Rattle.std.specs.Prelude.{ℕ, List, [], ◌∷◌}
use Rattle.atomic_face.specs.declared.class.Class.{Class}
use Rattle.atomic_face.specs.declared.class.Class.TheVariants.{Queue, Generator, Cpu}
use Rattle.atomic_face.specs.declared.class.Class.TheVariants.{Counter, Table}
use Rattle.atomic_face.specs.ClassRules.{ClassRules}
use Rattle.atomic_face.specs.Queue.{queue_rules}
use Rattle.atomic_face.specs.Generator.{generator_rules}
use Rattle.atomic_face.specs.Cpu.{cpu_rules}
use Rattle.atomic_face.specs.Counter.{counter_rules}
use Rattle.atomic_face.specs.StateTable.{table_rules}

-- the classes, in the order of their boxes in the stock of the program
abbrev pub all_classes : List Class
all_classes = Queue ∷ Generator ∷ Cpu ∷ Counter ∷ Table ∷ []

-- the place of a class among all
abbrev pub class_number : Class → ℕ
class_number Queue = 0
class_number Generator = 1
class_number Cpu = 2
class_number Counter = 3
class_number Table = 4

-- all that is said of a class
abbrev pub rules_of : Class → ClassRules
rules_of Queue = queue_rules
rules_of Generator = generator_rules
rules_of Cpu = cpu_rules
rules_of Counter = counter_rules
rules_of Table = table_rules
