use Rattle.model_build.proofs.Groups.{groups_are_met}
use Rattle.model_build.proofs.laws.groups_are_met.Goals as goal

pub returns : goal.returns
returns c = let made = c.components_are_made_item_by_item.ensures in groups_are_met made.walk made.items made.sections
