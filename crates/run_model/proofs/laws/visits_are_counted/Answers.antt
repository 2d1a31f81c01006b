use Rattle.std.proofs.Common.{refl}
use Rattle.run_model.specs.WholeRun.{run}
use Rattle.run_model.specs.Run.{run_from, next_cycle}
use Rattle.run_model.proofs.laws.visits_are_counted.Goals as goal

pub returns : goal.returns
unfolding run run_from next_cycle
returns c = record { ring = refl; stopping = refl; with_n = refl }
