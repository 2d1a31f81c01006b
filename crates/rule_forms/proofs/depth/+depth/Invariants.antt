use Rattle.std.proofs.Common.{◌≡◌, ◌+◌, drop, max}
use Rattle.rule_forms.proofs.Deepest.{rest_depth}
use Rattle.rule_forms.proofs.depth.+depth.Given as goal

abbrev pub invariant-depth_of_nodes-loop-node : goal.invariant-depth_of_nodes-loop-node
invariant-depth_of_nodes-loop-node l = record {
  same : max l.most (l.below + rest_depth (drop l.node-index l.nodes)) ≡ rest_depth l.nodes;
  count : l.below ≡ l.node-index;
}
