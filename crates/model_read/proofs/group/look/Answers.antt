use Rattle.std.proofs.Common.{subst, refl}
use Rattle.model_leaves.specs.Models.{tree_of}
use Rattle.model_tree.specs.Tree.{groups}
use Rattle.model_tree.specs.Stands.{group_of}
use Rattle.model_leaves.specs.Leaves.{no_settings}
use Rattle.model_leaves.proofs.Read.{leaf-there}
use Rattle.model_read.specs.Group.{IsPassed}
use Rattle.model_read.proofs.Groups.{box_no_cell, passed_cell, named_cell, other_named, cell_within, group_within, leaf_numbered, same_passed, names_differ, names_agree}
use Rattle.model_read.proofs.group.look.Goals as goal

pub returns-in_default-clause-looks : goal.returns-in_default-clause-looks
returns-in_default-clause-looks c = λ settings l is. box_no_cell c.args.name.now (settings c.in_default.field-0.0) l (c.in_default.ensures settings l is)

pub returns-then-eq-clause-looks : goal.returns-then-eq-clause-looks
returns-then-eq-clause-looks c = λ settings l is.
    let m = c.args.model.now in
    let p = subst (IsPassed m c.args.name.now) (same_passed c.args.passed c.in-Cell.group c.if-eq.ensures) c.requires.passed in
    passed_cell c.args.name.now (groups (tree_of m settings)) c.in-Cell.group c.in-Cell.cell l (c.in-Cell.ensures settings l is) (p settings)

pub group-found-requires : goal.group-found-requires
group-found-requires c =
    let m = c.args.model.now in
    let there = leaf-there m c.args.leaf c.requires.leaf in
    group_within (groups (tree_of m no_settings)) c.in-Cell.group c.in-Cell.cell there.0 (c.in-Cell.ensures no_settings there.0 there.1)

pub returns-then-ne-clause-looks : goal.returns-then-ne-clause-looks
returns-then-ne-clause-looks c = λ settings l is.
    let found = c.group-found.result.now in
    let differ = names_differ c.as_bytes.result.now c.as_bytes-2.result.now found.name c.args.name.now c.if-ne.ensures c.as_bytes.ensures.bytes c.as_bytes-2.ensures.bytes in
    other_named c.args.name.now (groups (tree_of c.args.model.now settings)) c.in-Cell.group c.in-Cell.cell (group_of found) l (c.in-Cell.ensures settings l is) (c.group-found.ensures settings) differ

pub overflow_sub-result : goal.overflow_sub-result
overflow_sub-result c =
    let m = c.args.model.now in
    let there = leaf-there m c.args.leaf c.requires.leaf in
    cell_within c.args.leaf c.in-Cell.cell c.in-Cell.group (groups (tree_of m no_settings)) there.0 (c.in-Cell.ensures no_settings there.0 there.1) (leaf_numbered (tree_of m no_settings) c.args.leaf there.0 there.1)

pub returns-clause-looks : goal.returns-clause-looks
returns-clause-looks c = λ settings l is.
    let found = c.group-found.result.now in
    let t = tree_of c.args.model.now settings in
    let agree = names_agree c.as_bytes.result.now c.as_bytes-2.result.now found.name c.args.name.now c.if-ne.ensures c.as_bytes.ensures.bytes c.as_bytes-2.ensures.bytes in
    named_cell c.args.name.now _ (groups t) c.in-Cell.group c.in-Cell.cell c.args.leaf (group_of found) l (c.in-Cell.ensures settings l is) (c.group-found.ensures settings) (leaf_numbered t c.args.leaf l is) agree refl refl
