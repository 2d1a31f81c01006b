use Rattle.run_loop.proofs.Known.{fit_runs}
use Rattle.run_loop.proofs.laws.runs_are_fit.Goals as goal

pub returns : goal.returns
returns c =
    fit_runs c.a_run_ends.ensures.from_a_state c.instants_never_fall.ensures
    c.records_name_what_there_is.ensures.runs
