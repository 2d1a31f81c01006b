use Rattle.model_text.proofs.Walked.{walk_is_met}
use Rattle.model_text.proofs.building.components_are_made_item_by_item.Goals as goal

pub returns-clause-walk : goal.returns-clause-walk
returns-clause-walk c = walk_is_met
