-- What the numbers of each class are in a run.
use Rattle.atomic_face.specs.declared.class.Class.{Class}
use Rattle.atomic_face.specs.declared.class.Class.TheVariants.{Queue, Generator, Cpu}
use Rattle.atomic_face.specs.declared.class.Class.TheVariants.{Counter, Table}
use Rattle.run_model.specs.ClassBounds.{ClassBounds}
use Rattle.run_model.specs.QueueBounds.{queue_bounds}
use Rattle.run_model.specs.GeneratorBounds.{generator_bounds}
use Rattle.run_model.specs.CpuBounds.{cpu_bounds}
use Rattle.run_model.specs.CounterBounds.{counter_bounds}
use Rattle.run_model.specs.TableBounds.{table_bounds}

-- all that is said of the numbers of a class
abbrev pub bounds_of : Class → ClassBounds
bounds_of Queue = queue_bounds
bounds_of Generator = generator_bounds
bounds_of Cpu = cpu_bounds
bounds_of Counter = counter_bounds
bounds_of Table = table_bounds
