use Rattle.saved_runs.proofs.Joins.{runs-join}
use Rattle.saved_runs.proofs.laws.runs_join.Goals as goal

pub returns : goal.returns
returns c =
    runs-join c.done_runs_leave_a_state.ensures c.accepted_names_are_names.ensures
    c.accepted_boxes_are_settled.ensures c.states_are_small.ensures.small
    c.runs_join.ensures.cycles c.runs_join.ensures.files c.resumed_runs_end.ensures.may_begin
