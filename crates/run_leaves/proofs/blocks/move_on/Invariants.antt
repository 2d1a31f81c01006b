use Rattle.std.proofs.Common.{◌≡◌, ◌+◌, ◌++◌, map, take, drop}
use Rattle.run_leaves.proofs.blocks.move_on.Given as goal

abbrev pub invariant-loop-number : goal.invariant-loop-number
invariant-loop-number l =
    l.numbers ≡ map (λ k. l.by + k) (take l.number-index l.fn.numbers) ++ drop l.number-index l.fn.numbers
