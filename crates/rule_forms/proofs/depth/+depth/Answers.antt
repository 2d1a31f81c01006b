use Rattle.std.proofs.Common.{◌≡◌, max, drop, sym, ap, ◌∙◌, arith, rules}
use Rattle.std.proofs.lemmas.List.{drop_all}
use Rattle.rule_tree.specs.InCode.{expr_of}
use Rattle.rule_forms.specs.Depth.{depth_of}
use Rattle.rule_forms.proofs.FormTrees.{node_call}
use Rattle.rule_forms.proofs.Deepest.{rest_depth, argument_here}
use Rattle.rule_forms.proofs.depth.+depth.Goals as goal

pub depth_of_node-returns-in_ok-arguments-in-Call : goal.depth_of_node-returns-in_ok-arguments-in-Call
depth_of_node-returns-in_ok-arguments-in-Call t c =
    c.in_ok-arguments-in-Call.ensures ∙ ap rest_depth c.deref-in-Call.ensures.value
    ∙ sym (ap depth_of (ap expr_of c.in-Call.is ∙ node_call c.in-Call.field-0 c.in-Call.nodes))

pub depth_of_nodes-loop-node-preserved : goal.depth_of_nodes-loop-node-preserved
depth_of_nodes-loop-node-preserved t c =
    let here = argument_here c.args.nodes.now c.loop-node.node-index c.node-item.result c.loop-node-test.true c.node-item.is in
    let more : c.max-most.result ≡ max c.loop-node.most c.in_ok-top.top = search rules in
    record {
      same = omega (arith, here, more, c.in_ok-own.ensures, c.in_ok-top.ensures, c.loop-node.invariant.same);
      count = omega (arith, c.loop-node.invariant.count);
    }

pub depth_of_nodes-returns : goal.depth_of_nodes-returns
depth_of_nodes-returns t c =
    let none : rest_depth (drop c.loop-node.node-index c.args.nodes.now) ≡ 0 = ap rest_depth (drop_all c.loop-node.node-index c.args.nodes.now c.loop-node-test.false) in
    let height : c.max-height.result ≡ max c.loop-node.most c.loop-node.below = search rules in
    omega (arith, none, height, c.loop-node.invariant.same)
