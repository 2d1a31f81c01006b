-- A run that is saved where it is done, and goes on from there, is one run to the later end.
use Rattle.std.specs.Prelude.{◌≡◌, ℕ, ◌<◌, ◌≤◌, None, List, ◌++◌}
use Rattle.std.specs.List.{All}
use Rattle.model_tree.specs.Tree.{Tree}
use Rattle.run_model.specs.Cycle.{LeafState}
use Rattle.run_model.specs.Run.{Event, Cycle, RunState, done, resumed_state, Run, run_to}
use Rattle.run_model.specs.Waiting.{StandsFrom}

-- a run to this first end, the run on from it, and the one run to the later end
pub record IsJoined (first : ℕ) (begun more whole : Run) : Type 0 where
  pub cycles : whole.cycles ≡ begun.cycles ++ more.cycles
  pub verdict : whole.verdict ≡ more.verdict
  pub leaves : whole.left.leaf_states ≡ more.left.leaf_states
  pub events : whole.left.events ≡ more.left.events
  pub later : All (λ (c : Cycle). first < c.time) more.cycles

-- from a state in which no cycle was run
abbrev pub CyclesJoin : Type 0
CyclesJoin =
    (tree : Tree) (first last limit low : ℕ) (s : RunState) → StandsFrom limit low s → s.last ≡ None
    → first ≤ last → (run_to tree first limit s).verdict ≡ done
    → IsJoined first (run_to tree first limit s)
    (run_to tree last limit
    (resumed_state first (run_to tree first limit s).left.leaf_states s.events))
    (run_to tree last limit s)

-- a state that is saved again has the events after its own time
abbrev pub ResumesAgain : Type 0
ResumesAgain =
    (first second : ℕ) (states others : List LeafState) (events : List Event) → first ≤ second
    → resumed_state second states (resumed_state first others events).events
    ≡ resumed_state second states events
