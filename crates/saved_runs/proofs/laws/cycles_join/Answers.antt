use Rattle.saved_runs.proofs.Joins.{cycles-join}
use Rattle.saved_runs.proofs.laws.cycles_join.Goals as goal

pub returns : goal.returns
returns c = cycles-join c.done_runs_leave_a_state.ensures c.runs_join.ensures.cycles
    c.resumed_runs_end.ensures.may_begin
