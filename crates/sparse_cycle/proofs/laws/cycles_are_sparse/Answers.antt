use Rattle.std.proofs.Common.{refl}
use Rattle.run_model.specs.WholeRun.{run}
use Rattle.run_model.specs.Run.{run_from, next_cycle}
use Rattle.sparse_cycle.proofs.laws.cycles_are_sparse.Goals as goal

pub returns : goal.returns
unfolding run run_from next_cycle
returns c =
    record {
      paths_by_leaf = refl;
      paths_to_top = refl;
      waiting = refl;
      due = refl;
      given = refl;
      fed = refl;
      not_fed = refl;
      touched = refl;
      same_cycle = refl;
      givers = refl;
      y = refl;
      n = refl;
      woken = refl;
      reaching = refl;
      at_an_input = refl;
    }
