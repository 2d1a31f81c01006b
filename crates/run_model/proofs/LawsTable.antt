-- The laws of each class.
use Rattle.atomic_face.specs.declared.class.Class.{Class}
use Rattle.atomic_face.specs.declared.class.Class.TheVariants.{Queue, Generator, Cpu, Counter, Table}
use Rattle.atomic_face.specs.ClassTable.{rules_of}
use Rattle.run_model.specs.BoundsTable.{bounds_of}
use Rattle.run_model.proofs.ClassLaws.{ClassLaws}
use Rattle.run_model.proofs.QueueLaws.{queue_laws}
use Rattle.run_model.proofs.GeneratorLaws.{generator_laws}
use Rattle.run_model.proofs.CpuLaws.{cpu_laws}
use Rattle.run_model.proofs.CounterLaws.{counter_laws}
use Rattle.run_model.proofs.TableLaws.{table_laws}

pub laws_of : (class : Class) → ClassLaws (rules_of class) (bounds_of class)
laws_of Queue = queue_laws
laws_of Generator = generator_laws
laws_of Cpu = cpu_laws
laws_of Counter = counter_laws
laws_of Table = table_laws
