use Rattle.std.proofs.Common.{refl}
use Rattle.run_model.specs.WholeRun.{run}
use Rattle.run_model.specs.Run.{run_from, next_cycle}
use Rattle.run_model.proofs.laws.groups_run.Goals as goal

pub returns : goal.returns
unfolding run run_from next_cycle
returns c = record { ports = refl; zones = refl; further_port = refl; outside = refl }
