-- Parts of a cycle that compute.
use Rattle.std.specs.Prelude.{◌≡◌, ℕ, true, false, Some, [], ◌∷◌, map}
use Rattle.rule_tree.specs.Meaning.{whole}
use Rattle.model_tree.specs.Examples.{letter, twice_and_once}
use Rattle.model_tree.specs.Tree.{Tree}
use Rattle.model_tree.specs.Pull.{leaf_source}
use Rattle.run_model.specs.Run.{RunState, start, next_cycle}
use Rattle.run_model.specs.WholeRun.{run}
use Rattle.run_model.specs.Examples.{at, ring}
use Rattle.run_model.specs.GroupRows.{feeding_tree, event_to}
use Rattle.time_queue.specs.Waiting.{least_time}
use Rattle.sparse_cycle.specs.Sparse.{Path, paths, out_paths, due_leaves, cycle_parts, sparse_next}
use Rattle.sparse_cycle.specs.Walk.{waits}
use Rattle.sparse_cycle.specs.Collect.{collect_each, y_of, n_of}
use Rattle.sparse_cycle.specs.Wake.{woken_from}
use Rattle.sparse_cycle.specs.Feed.{inputs_at, values_of_name, numbers, reaches}

-- a path from a leaf
abbrev pub path : ℕ → ℕ → ℕ → Path
path to port from = record { to = to; port = port; source = leaf_source from }

-- where a run without events stands after this instant
abbrev pub after : Tree → ℕ → RunState
after tree t = (run tree [] t 10000).left

pub record CyclesAreSparse : Type 0 where
  pub paths_by_leaf : paths twice_and_once ≡ path 2 0 1 ∷ path 2 0 0 ∷ path 2 0 0 ∷ []
  pub paths_to_top : out_paths twice_and_once ≡ path 0 0 2 ∷ []
  pub waiting : least_time (waits (after feeding_tree 0).leaf_states) ≡ Some 100
  pub due : due_leaves 100 (after feeding_tree 0).leaf_states ≡ 0 ∷ []
  pub given : (cycle_parts feeding_tree 100 (after feeding_tree 0)).given ≡ at 0 1 (whole 1) ∷ []
  pub fed : (cycle_parts feeding_tree 200 (after feeding_tree 100)).fed ≡ at 1 0 (whole 1) ∷ []
  pub not_fed : (cycle_parts feeding_tree 100 (after feeding_tree 0)).touched ≡ 0 ∷ []
  pub touched : (cycle_parts feeding_tree 200 (after feeding_tree 100)).touched ≡ 0 ∷ 1 ∷ []
  pub same_cycle : sparse_next feeding_tree 1000 10000 (after feeding_tree 100) (Some 200)
      ≡ next_cycle feeding_tree 1000 10000 (after feeding_tree 100)
  pub givers : (collect_each 0 (0 ∷ 2 ∷ []) (start ring []).leaf_states).givers ≡ 0 ∷ 2 ∷ []
  pub y : y_of (at 0 0 (whole 1) ∷ at 0 1 (whole 2) ∷ []) ≡ at 0 0 (whole 1) ∷ []
  pub n : n_of (at 0 0 (whole 1) ∷ at 0 1 (whole 2) ∷ []) ≡ at 0 1 (whole 2) ∷ []
  pub woken : map (woken_from ring (0 ∷ [])) (0 ∷ 1 ∷ 2 ∷ 3 ∷ []) ≡ true ∷ true ∷ true ∷ false ∷ []
  pub reaching : numbers (reaches [] (at 0 0 (whole 7) ∷ []) []) (paths twice_and_once) ≡ 1 ∷ 2 ∷ []
  pub at_an_input : values_of_name (letter 97 ∷ letter 98 ∷ [])
      (inputs_at 10 (event_to 1 10 5 ∷ event_to 0 10 3 ∷ event_to 1 20 6 ∷ event_to 1 10 4 ∷ []))
      (letter 98) ≡ whole 5 ∷ whole 4 ∷ []
