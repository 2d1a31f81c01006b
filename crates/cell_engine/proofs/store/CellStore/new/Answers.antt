use Rattle.std.proofs.Common.{◌∙◌, ap, subst, sym}
use Rattle.std.proofs.lemmas.Result.{IfOk-weaker}
use Rattle.model_tree.specs.Stands.{group_of}
use Rattle.cell_table.specs.Table.{Table}
use Rattle.cell_engine.specs.Layout.{Layout, StandsFor}
use Rattle.cell_engine.proofs.store.CellStore.new.Goals as goal

pub returns-clause-layout : goal.returns-clause-layout
returns-clause-layout c =
    IfOk-weaker c.at_start.result _ _ (λ s same. subst (λ (l : Layout). StandsFor (group_of c.args.group.now) l) (sym same) c.in_ok-plan.ensures) c.at_start.ensures.layout

pub returns-clause-cells : goal.returns-clause-cells
returns-clause-cells c =
    IfOk-weaker c.at_start.result _ _ (λ s same. same ∙ ap (λ (t : Table). t.cells) c.in_ok-table.ensures) c.at_start.ensures.cells
