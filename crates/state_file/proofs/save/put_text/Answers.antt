use Rattle.std.proofs.Common.{subst}
use Rattle.model_leaves.specs.declared.table.Model.{Model}
use Rattle.model_leaves.specs.declared.leaves.LeafAt.TheVariants as at
use Rattle.model_leaves.specs.Leaves.{IsPlaceOf}
use Rattle.run_leaves.specs.Seated.{settings_at}
use Rattle.state_file.proofs.Lines.{sits, cell_sits, box_sits}
use Rattle.state_file.proofs.save.put_text.Goals as goal

pub put_cell_of-requires-clause-cell : goal.put_cell_of-requires-clause-cell
put_cell_of-requires-clause-cell g c =
    cell_sits c.args.run.now.model (settings_at c.args.run.now.settings)
    c.args.run.now.state.leaf_states c.args.leaf c.in-Cell.group c.in-Cell.cell c.requires.fits
    c.requires.leaf
    (subst (λ (m : Model). IsPlaceOf m c.args.leaf (at.Cell c.in-Cell.group c.in-Cell.cell))
    c.model.ensures c.in-Cell.ensures)

pub put_cell_of-requires-clause-within : goal.put_cell_of-requires-clause-within
put_cell_of-requires-clause-within g c =
    let s = sits c.args.run.now.model (settings_at c.args.run.now.settings)
    c.args.run.now.state.leaf_states c.args.leaf c.requires.fits c.requires.leaf in
    s.inside

pub put_box_of-requires-clause-boxed : goal.put_box_of-requires-clause-boxed
put_box_of-requires-clause-boxed g c =
    box_sits c.args.run.now.model (settings_at c.args.run.now.settings)
    c.args.run.now.state.leaf_states c.args.leaf c.in-Atomic.field-0 c.requires.fits
    c.requires.leaf
    (subst (λ (m : Model). IsPlaceOf m c.args.leaf (at.Atomic c.in-Atomic.field-0)) c.model.ensures
    c.in-Atomic.ensures)
