use Rattle.std.proofs.Common.{◌≡◌, ◌+◌, ◌≤◌, ◌++◌, length, take}
use Rattle.std.specs.List.{flat_map, zip}
use Rattle.model_tree.specs.Tree.{leaves}
use Rattle.run_leaves.specs.Standing.{tree_in}
use Rattle.state_file.specs.Lines.{line_ended}
use Rattle.state_file.proofs.save.put_lines.Given as goal

abbrev pub invariant-loop-leaf : goal.invariant-loop-leaf
invariant-loop-leaf g l = record {
  appended : l.into.items
      ≡ l.fn.into.items
      ++ flat_map line_ended (take l.leaf (zip (leaves (tree_in l.run)) l.run.state.leaf_states));
  kept : take (length l.fn.into.items) l.into.items ≡ l.fn.into.items;
  steps : l.steps ≤ l.fn.steps + l.leaf;
}
