use Rattle.asked_run.proofs.Leaving.{only_runs_leave}
use Rattle.cdpp_top.proofs.laws.only_runs_leave.Goals as goal

pub returns : goal.returns
returns c = only_runs_leave
