use Rattle.std.proofs.Common.{◌++◌, List, sym, ap, ◌∙◌}
use Rattle.std.specs.Borrow.{Bor}
use Rattle.model_tree.specs.declared.component.Component.{Component}
use Rattle.model_tree.specs.declared.group.CellGroup.{CellGroup}
use Rattle.model_leaves.specs.Nth.{groups_of_all}
use Rattle.model_leaves.specs.Grouped.{groups_shown}
use Rattle.model_leaves.proofs.Rows.{groups-Coupled}
use Rattle.model_leaves.proofs.table.Model.all_groups.Goals as goal

pub returns : goal.returns
returns c = λ settings.
    c.in_ok-gather_all.ensures settings
    ∙ ap (λ (gs : List (Bor CellGroup)). groups_shown gs ++ groups_of_all c.deref.result.now settings) c.new-found.ensures.items
    ∙ ap (λ (cs : List Component). groups_of_all cs settings) c.deref.ensures.value
    ∙ sym (groups-Coupled c.args.self.now.top settings)
