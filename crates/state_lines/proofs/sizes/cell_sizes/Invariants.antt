use Rattle.std.proofs.Common.{◌≡◌, map, take}
use Rattle.model_tree.specs.Tree.{groups}
use Rattle.model_leaves.specs.Leaves.{OfTree}
use Rattle.state_lines.specs.Sizes.{size_of}
use Rattle.state_lines.proofs.sizes.cell_sizes.Given as goal

abbrev pub invariant-loop-group : goal.invariant-loop-group
invariant-loop-group l =
    OfTree l.fn.model (λ t. l.sizes.items ≡ take l.group-index (map size_of (groups t)))
