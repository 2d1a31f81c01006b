-- What is known of the cycles of a run.
use Rattle.std.specs.Prelude.{ℕ, ◌≤◌}
use Rattle.std.specs.List.{All}
use Rattle.model_tree.specs.Tree.{Tree}
use Rattle.run_model.specs.Fitting.{FitsTree, NamesItsParts}
use Rattle.run_model.specs.Instants.{InstantsNeverFall}
use Rattle.run_model.specs.Run.{RunState, most_cycles, run_from}
use Rattle.run_model.specs.Runs.{Runs}
use Rattle.run_model.specs.Waiting.{StandsFrom}

-- a run with enough cycles for its verdict: these name leaves and ports that there are, their
-- instants never fall, and the states that are left fit the model
pub record IsFit (tree : Tree) (end limit low n : ℕ) (s : RunState) : Type 0 where
  pub names : All (NamesItsParts tree) (run_from n tree end limit s).cycles
  pub never_fall : InstantsNeverFall low (run_from n tree end limit s).cycles
  pub fits : FitsTree tree (run_from n tree end limit s).left.leaf_states
  pub whole : Runs tree end limit s (run_from n tree end limit s).cycles
      (run_from n tree end limit s).verdict (run_from n tree end limit s).left

-- so it is with each run from a state that fits the model, and in which all waits from a time on
abbrev pub RunsAreFit : Type 0
RunsAreFit =
    (tree : Tree) (end limit low n : ℕ) (s : RunState) → StandsFrom limit low s
    → FitsTree tree s.leaf_states → most_cycles end limit ≤ n → IsFit tree end limit low n s
