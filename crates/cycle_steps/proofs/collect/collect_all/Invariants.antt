use Rattle.model_tree.specs.Tree.{Tree}
use Rattle.std.proofs.Common.{◌≡◌, ◌≤◌, ◌+◌, take, drop}
use Rattle.sparse_cycle.specs.Collect.{CanCollect, collect_each}
use Rattle.cycle_steps.specs.Gathering.{value_count}
use Rattle.cycle_steps.proofs.Gathered.{Gathers}
use Rattle.cycle_steps.proofs.collect.collect_all.Given as goal

abbrev pub invariant-loop-leaf : goal.invariant-loop-leaf
invariant-loop-leaf g l = record {
  can : CanCollect l.t (drop l.leaf-index l.due) (g.G.Leaves.states l.leaves);
  gathers : Gathers l.t (collect_each l.t l.due (g.G.Leaves.states l.fn.leaves)) (collect_each l.t (drop l.leaf-index l.due) (g.G.Leaves.states l.leaves)) l.y.items l.n.items l.givers.items;
  stands : (tree : Tree) → g.G.Leaves.stands_for l.fn.leaves tree → g.G.Leaves.stands_for l.leaves tree;
  kept : g.G.Leaves.kept l.leaves ≡ g.G.Leaves.kept l.fn.leaves;
  ports : g.G.Leaves.ports l.leaves ≡ g.G.Leaves.ports l.fn.leaves;
  most : g.G.Leaves.most l.leaves ≡ g.G.Leaves.most l.fn.leaves;
  visits : g.G.Leaves.visits l.steps + value_count (collect_each l.t (drop l.leaf-index l.due) (g.G.Leaves.states l.leaves)) ≤ g.G.Leaves.visits l.fn.steps + value_count (collect_each l.t l.due (g.G.Leaves.states l.fn.leaves));
  gave : g.G.Leaves.states l.leaves ≡ (collect_each l.t (take l.leaf-index l.due) (g.G.Leaves.states l.fn.leaves)).leaf_states;
}
