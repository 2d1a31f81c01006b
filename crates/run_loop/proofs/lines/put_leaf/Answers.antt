use Rattle.std.proofs.Common.{◌<◌, ◌≤◌, arith}
use Rattle.model_tree.specs.Tree.{leaf_count}
use Rattle.model_leaves.specs.Models.{tree_of}
use Rattle.run_loop.proofs.Ended.{called_there, called_past, on_ok_from}
use Rattle.run_loop.proofs.lines.put_leaf.Goals as goal

pub returns-then-leaf-leaves : goal.returns-then-leaf-leaves
returns-then-leaf-leaves c =
    on_ok_from c.leaf_text.result _ _ (λ appends settings.
    let t = tree_of c.args.model.now settings in
    let lt : c.args.leaf < leaf_count t = omega (arith, c.leaves.ensures settings, c.if-leaf-leaves.true) in
    called_there t c.args.leaf c.args.into.now.items c.leaf_text.new.into.items lt (appends settings)) c.leaf_text.ensures.ok

pub returns-else-leaf-leaves : goal.returns-else-leaf-leaves
returns-else-leaf-leaves c = λ settings.
    let t = tree_of c.args.model.now settings in
    let le : leaf_count t ≤ c.args.leaf = omega (arith, c.leaves.ensures settings, c.if-leaf-leaves.false) in
    called_past t c.args.leaf c.args.into.now.items le
