use Rattle.std.proofs.Common.{◌≡◌, ◌≤◌, ◌+◌, ℕ, List, length, drop}
use Rattle.std.specs.Prelude.{slice_get}
use Rattle.std.specs.List.{sum_by}
use Rattle.model_tree.specs.Tree.{Tree, leaves}
use Rattle.run_model.specs.Run.{PortRecord}
use Rattle.leaf_set.specs.Members.{is_in}
use Rattle.sparse_cycle.specs.Sparse.{is_woken_at}
use Rattle.cycle_steps.specs.Untimed.{x_records}
use Rattle.cycle_steps.proofs.Steps.{walk_from, WalksOn}
use Rattle.cycle_steps.proofs.walk.walk.Given as goal

abbrev pub invariant-loop-leaf : goal.invariant-loop-leaf
invariant-loop-leaf g l = record {
  long : length (g.M.Leaves.states l.movers) ≡ length (g.M.Leaves.states l.fn.movers);
  waiting : length (g.Q.TimeQueue.waiting l.queue) ≡ length (g.M.Leaves.states l.fn.movers);
  kept : g.M.Leaves.kept l.movers ≡ g.M.Leaves.kept l.fn.movers;
  ports : g.M.Leaves.ports l.movers ≡ g.M.Leaves.ports l.fn.movers;
  most : g.M.Leaves.most l.movers ≡ g.M.Leaves.most l.fn.movers;
  stands : (tree : Tree) → g.M.Leaves.stands_for l.fn.movers tree → g.M.Leaves.stands_for l.movers tree;
  walks : (tree : Tree) (given : List PortRecord) → g.M.Leaves.stands_for l.fn.movers tree
      → ((k : ℕ) → is_in (g.S.LeafSet.members l.woken) k ≡ is_woken_at given (slice_get (leaves tree) k))
      → WalksOn l.t (walk_from tree l.t given (x_records l.fn.records.x.items) l.touched (g.M.Leaves.states l.fn.movers) (g.Q.TimeQueue.waiting l.fn.queue)) (walk_from tree l.t given (x_records l.fn.records.x.items) (drop l.leaf-index l.touched) (g.M.Leaves.states l.movers) (g.Q.TimeQueue.waiting l.queue)) l.records.s.items;
  rest : l.records ≡ record l.fn.records { s = l.records.s };
  visits : g.M.Leaves.visits l.steps + sum_by (g.M.Leaves.most l.fn.movers) (drop l.leaf-index l.touched) ≤ g.M.Leaves.visits l.fn.steps + sum_by (g.M.Leaves.most l.fn.movers) l.touched;
}
