use Rattle.std.proofs.Common.{sym, subst}
use Rattle.model_leaves.specs.declared.table.Model.{Model}
use Rattle.model_leaves.specs.declared.leaves.LeafAt.TheVariants as at
use Rattle.model_leaves.specs.Leaves.{IsPlaceOf}
use Rattle.run_model.specs.Fitting.{OfLeaf}
use Rattle.run_leaves.specs.Seated.{settings_at}
use Rattle.run_leaves.specs.Standing.{tree_in}
use Rattle.state_lines.specs.declared.sizes.CellSize.{CellSize}
use Rattle.state_file.specs.Taken.{IsCellOf}
use Rattle.state_file.proofs.Putting.{box_stands, got, size_there}
use Rattle.state_file.proofs.leaf.take_leaf.Goals as goal

pub bounds-sizes-group : goal.bounds-sizes-group
bounds-sizes-group g c =
    let run = c.args.run.now in
    let x = size_there run.model (settings_at run.settings) c.args.leaf c.in-Cell.group
    c.in-Cell.cell c.args.sizes.now run.state.leaf_states c.requires.fits c.requires.sound
    c.requires.sizes_are
    (subst (λ (m : Model). IsPlaceOf m c.args.leaf (at.Cell c.in-Cell.group c.in-Cell.cell))
    c.model.ensures c.in-Cell.ensures) in
    (got c.args.sizes.now c.in-Cell.group x.size x.size x.there).0

pub take_cell-requires-clause-cell : goal.take_cell-requires-clause-cell
take_cell-requires-clause-cell g c =
    let run = c.args.run.now in
    let x = size_there run.model (settings_at run.settings) c.args.leaf c.in-Cell.group
    c.in-Cell.cell c.args.sizes.now run.state.leaf_states c.requires.fits c.requires.sound
    c.requires.sizes_are
    (subst (λ (m : Model). IsPlaceOf m c.args.leaf (at.Cell c.in-Cell.group c.in-Cell.cell))
    c.model.ensures c.in-Cell.ensures) in
    subst (λ (z : CellSize). OfLeaf (tree_in run) c.args.leaf (IsCellOf z))
    (sym (got c.args.sizes.now c.in-Cell.group x.size _ x.there).1) x.is

pub take_box-requires-clause-boxed : goal.take_box-requires-clause-boxed
take_box-requires-clause-boxed g c =
    let run = c.args.run.now in
    box_stands run.model (settings_at run.settings) c.args.leaf c.in-Atomic.field-0
    run.state.leaf_states c.requires.fits
    (subst (λ (m : Model). IsPlaceOf m c.args.leaf (at.Atomic c.in-Atomic.field-0))
    c.model.ensures c.in-Atomic.ensures)
