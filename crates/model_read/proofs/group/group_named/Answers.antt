use Rattle.std.proofs.Common.{◌≡◌, ◌<◌, length, arith}
use Rattle.model_leaves.specs.Models.{tree_of}
use Rattle.model_tree.specs.Tree.{leaves, leaf_count}
use Rattle.model_leaves.proofs.Read.{leaves-length}
use Rattle.model_read.proofs.Groups.{group_found, group_passes, group_none, leaf_in}
use Rattle.model_read.proofs.group.group_named.Goals as goal

pub returns-in-Here : goal.returns-in-Here
returns-in-Here c = λ settings.
    let t = tree_of c.args.model.now settings in
    let lt : c.loop-leaf.leaf < leaf_count t = omega (arith, c.leaves-leaf-end.ensures settings, c.loop-leaf-test.true) in
    let there = leaf_in t c.loop-leaf.leaf lt in
    group_found c.args.name.now c.in-Here.group t c.loop-leaf.leaf there.0 there.1 (c.in-Here.ensures.looks settings there.0 there.1) (c.loop-leaf.invariant.passes settings)

pub loop-leaf-preserved : goal.loop-leaf-preserved
loop-leaf-preserved c = record {
  passes = λ settings.
      let t = tree_of c.args.model.now settings in
      let lt : c.loop-leaf.leaf < leaf_count t = omega (arith, c.leaves-leaf-end.ensures settings, c.loop-leaf-test.true) in
      let there = leaf_in t c.loop-leaf.leaf lt in
      group_passes c.args.name.now (leaves t) c.loop-leaf.leaf there.0 there.1 (c.in-Other.ensures.looks settings there.0 there.1) (c.loop-leaf.invariant.passes settings);
  passed = c.in-Other.ensures.passed;
}

pub returns : goal.returns
returns c = λ settings.
    let t = tree_of c.args.model.now settings in
    let all : c.loop-leaf.leaf ≡ length (leaves t) = omega (arith, c.leaves-leaf-end.ensures settings, c.loop-leaf-test.false, c.loop-leaf.auto.leaf-end, leaves-length t 0) in
    group_none c.args.name.now t c.loop-leaf.leaf all (c.loop-leaf.invariant.passes settings)
