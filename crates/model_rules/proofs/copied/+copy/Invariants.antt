use Rattle.std.proofs.Common.{◌≡◌, map, take}
use Rattle.rule_tree.specs.InCode.{expr_of}
use Rattle.model_rules.proofs.copied.+copy.Given as goal

abbrev pub invariant-copied_nodes-loop-node : goal.invariant-copied_nodes-loop-node
invariant-copied_nodes-loop-node l = map expr_of l.made.items ≡ map expr_of (take l.node-index l.nodes)
