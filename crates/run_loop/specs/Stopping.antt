-- Private: a stop ends a run, but for want of memory.
use Rattle.std.specs.Prelude.{◌≡◌, Result, Ok, Err}
use Rattle.run_model.specs.declared.stop.Stop.{Stop}
use Rattle.run_model.specs.declared.stop.Stop.TheVariants as stops
use Rattle.run_loop.specs.declared.outputs.Unwritten.{Unwritten}
use Rattle.run_loop.specs.declared.outputs.Unwritten.TheVariants.{Fault, Memory}
use Rattle.run_loop.specs.declared.ending.Ending.{Ending}
use Rattle.run_loop.specs.declared.ending.Ending.TheVariants.{Done, Stopped}

-- the answer for a stop
abbrev pub StopsAs : Stop → Result Ending Unwritten → Type 0
StopsAs stop (Ok Done) = ⊥
StopsAs stop (Ok (Stopped s)) = (s ≡ stop) × ¬ (stop ≡ stops.Memory)
StopsAs stop (Err (Fault file)) = ⊥
StopsAs stop (Err Memory) = stop ≡ stops.Memory
