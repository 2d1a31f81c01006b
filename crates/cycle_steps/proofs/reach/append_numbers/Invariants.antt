use Rattle.std.proofs.Common.{◌≡◌, ◌++◌, map, drop}
use Rattle.model_leaves.specs.declared.path.Target.{Target}
use Rattle.cycle_steps.proofs.reach.append_numbers.Given as goal

abbrev pub invariant-loop-target : goal.invariant-loop-target
invariant-loop-target l =
    (l.fn.into.items ++ map (λ (t : Target). t.path) l.targets) ≡ (l.into.items ++ map (λ (t : Target). t.path) (drop l.target-index l.targets))
