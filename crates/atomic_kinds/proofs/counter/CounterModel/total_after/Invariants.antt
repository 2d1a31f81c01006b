use Rattle.std.proofs.Common.{◌≡◌, drop}
use Rattle.std.specs.Prelude.{ℤ}
use Rattle.atomic_face.specs.Counter.{counter_inputs}
use Rattle.atomic_kinds.specs.Counter.{counter_settings, with_total}
use Rattle.atomic_kinds.proofs.counter.CounterModel.total_after.Given as goal

abbrev pub invariant-loop-input : goal.invariant-loop-input
invariant-loop-input l =
    (due : ℤ) → counter_inputs (counter_settings l.self) (with_total due l.total) (drop l.input-index l.bag) ≡ counter_inputs (counter_settings l.self) (with_total due l.self.total) l.bag
