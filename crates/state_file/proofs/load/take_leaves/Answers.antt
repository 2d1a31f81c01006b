use Rattle.std.proofs.Common.{List, sym, subst}
use Rattle.model_leaves.specs.declared.table.Model.{Model}
use Rattle.state_lines.specs.declared.sizes.CellSize.{CellSize}
use Rattle.state_lines.specs.Sizes.{AreSizesOf}
use Rattle.state_file.proofs.load.take_leaves.Goals as goal

pub take_lines-requires-clause-sizes : goal.take_lines-requires-clause-sizes
take_lines-requires-clause-sizes g c =
    subst (λ (sizes : List CellSize). AreSizesOf c.args.run.now.model sizes)
    (sym c.deref.ensures.value)
    (subst (λ (m : Model). AreSizesOf m c.in_ok-sizes.sizes.items) c.model.ensures
    c.in_ok-sizes.ensures)
