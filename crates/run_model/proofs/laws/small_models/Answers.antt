use Rattle.std.proofs.Common.{refl}
use Rattle.run_model.specs.WholeRun.{run}
use Rattle.run_model.specs.Run.{run_from, next_cycle}
use Rattle.run_model.proofs.laws.small_models.Goals as goal

pub returns-clause-cells : goal.returns-clause-cells
unfolding run run_from next_cycle
returns-clause-cells c = record { ring_of_two = refl; one_sided = refl; outside = refl; keeps_the_last = refl; keeps_all = refl; counted_down = refl }

pub returns-clause-inputs : goal.returns-clause-inputs
unfolding run run_from next_cycle
returns-clause-inputs c = record { transport = refl; preempted = refl; by_time = refl }

pub returns-clause-stops : goal.returns-clause-stops
unfolding run run_from next_cycle
returns-clause-stops c = record {
  bad_delay = refl;
  too_many = refl;
  no_true_rule = refl;
  no_true_rule_adds = refl;
  overflow = refl;
  overflow_adds = refl;
  largest = refl;
  counter = refl;
  counter_adds = refl;
}
