use Rattle.saved_runs.proofs.Settled.{models_are_settled}
use Rattle.saved_runs.proofs.accepted.accepted_boxes_are_settled.Goals as goal

pub returns : goal.returns
returns c = models_are_settled c.accepted_models_pass_each_phase.ensures
    c.components_are_made_item_by_item.ensures.walk c.components_are_made_item_by_item.ensures.items
