use Rattle.saved_runs.proofs.Runs.{runs-keep, start-is}
use Rattle.saved_runs.proofs.box_laws.runs_keep_states.Goals as goal

pub returns : goal.returns
returns c = record {
  start = start-is c.starts_are_states.ensures;
  runs =
      runs-keep c.moves_keep_states.ensures c.values_are_bounded.ensures.runs;
}
