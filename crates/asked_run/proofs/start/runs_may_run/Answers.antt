use Rattle.asked_run.proofs.Started.{runs_may_run}
use Rattle.asked_run.proofs.start.runs_may_run.Goals as goal

pub returns : goal.returns
returns c =
    let waits = c.nothing_waits_in_the_past.ensures in
    runs_may_run waits.start waits.resumed c.resumed_runs_end.ensures.may_begin c.records_name_what_there_is.ensures.start c.read_states_fit.ensures
