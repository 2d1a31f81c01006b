use Rattle.std.proofs.Common.{◌∙◌}
use Rattle.model_tree.specs.declared.component.Component.TheVariants.{Coupled as in_tree}
use Rattle.model_leaves.proofs.Told.{groups_in-length}
use Rattle.model_leaves.proofs.table.Model.groups.Goals as goal

pub returns : goal.returns
returns c = λ settings. c.args.self.now.counted ∙ groups_in-length (in_tree c.args.self.now.top) settings
