use Rattle.std.proofs.Common.{◌++◌, ◌∙◌, ap}
use Rattle.quantity.specs.Bytes.{Bytes}
use Rattle.model_leaves.specs.Models.{tree_of}
use Rattle.model_tree.specs.Tree.{groups}
use Rattle.model_leaves.specs.Leaves.{no_settings}
use Rattle.text_forms.proofs.Appended.{leaf_of, on_ok}
use Rattle.text_forms.proofs.Starts.{cell_inside, cell_named, named_head}
use Rattle.text_forms.proofs.start.Start.put_head.Goals as goal

pub put_cell-requires : goal.put_cell-requires
put_cell-requires c =
    let m = c.args.model.now in
    let l = leaf_of m c.args.leaf no_settings c.requires.leaf in
    record { inside = cell_inside (groups (tree_of m no_settings)) c.in-Some.cell l.0 (c.in-Some.ensures no_settings l.0 l.1) }

pub returns-in-Some-clause-right : goal.returns-in-Some-clause-right
returns-in-Some-clause-right c =
    c.put_cell.ensures.right c.args.model.now (cell_named c.args.model.now c.args.leaf c.in-Some.cell c.requires.leaf c.in-Some.ensures) c.requires.right

pub returns-in-Some-clause-ok : goal.returns-in-Some-clause-ok
returns-in-Some-clause-ok c =
    let m = c.args.model.now in
    on_ok c.put_cell.result _ _ (λ last settings l e.
    last ∙ ap (λ (x : Bytes). c.args.into.now.items ++ (x ++ c.args.tail.now))
    (named_head c.args.self.now.letter c.args.time (groups (tree_of m settings)) c.in-Some.cell l (c.in-Some.ensures settings l e)))
    (c.put_cell.ensures.ok m (cell_named m c.args.leaf c.in-Some.cell c.requires.leaf c.in-Some.ensures) c.requires.right)
