use Rattle.saved_runs.proofs.Joins.{text-once}
use Rattle.saved_runs.proofs.laws.text_once.Goals as goal

pub returns : goal.returns
returns c = text-once c.what_is_written_is_read.ensures c.nothing_else_is_read.ensures
    c.accepted_boxes_are_settled.ensures c.accepted_names_are_names.ensures
    c.states_are_small.ensures.small
