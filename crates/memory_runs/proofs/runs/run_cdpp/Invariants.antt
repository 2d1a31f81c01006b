use Rattle.std.proofs.Common.{◌≡◌, length}
use Rattle.memory_runs.proofs.runs.run_cdpp.Given as goal

abbrev pub invariant-loop-number : goal.invariant-loop-number
invariant-loop-number l = length l.boxes.items ≡ l.number

abbrev pub ghosts-counted : goal.ghosts-counted
ghosts-counted a = record { name = a.blank.name; parts = a.blank.parts }
