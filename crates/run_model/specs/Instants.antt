-- Laws of a run's instants: each run ends, its instants never fall and never pass the end, and none
-- has more cycles than the limit.
use Rattle.std.specs.Prelude.{◌≡◌, ℕ, ◌+◌, ◌≤◌, ◌<◌, nat_lt, ◌==◌, List, [], ◌∷◌, length, ⊤}
use Rattle.std.specs.List.{All, filter, count_by}
use Rattle.model_tree.specs.Tree.{Tree}
use Rattle.run_model.specs.Cycle.{LeafState}
use Rattle.run_model.specs.Run.{Event, Cycle, RunState, Verdict, done, cycled, start, resumed_state, next_cycle, run_from, most_cycles}
use Rattle.run_model.specs.WholeRun.{run}
use Rattle.run_model.specs.Runs.{Runs}
use Rattle.run_model.specs.Waiting.{LeafWaitsFrom, StandsFrom}

-- at the start all waits from 0 on, and in a saved state from after its time on
abbrev pub StartStands : Type 0
StartStands =
    (tree : Tree) (events : List Event) (limit : ℕ) → StandsFrom limit 0 (start tree events)

-- a run that goes on from a saved state stands behind its time
abbrev pub ResumedStands : Type 0
ResumedStands =
    (time limit : ℕ) (states : List LeafState) (events : List Event)
    → All (LeafWaitsFrom (time + 1)) states
    → StandsFrom limit (time + 1) (resumed_state time states events)

-- a cycle's instant isn't before those of all that waits, nor after the end; what waits after it
-- isn't before it, and its events are taken
pub record CycleStands (end limit low : ℕ) (c : Cycle) (n : RunState) : Type 0 where
  pub from : low ≤ c.time
  pub within : c.time ≤ end
  pub stands : StandsFrom limit c.time n
  pub taken : All (λ (e : Event). c.time < e.time) n.events

-- a cycle stands where the one before it left the run
abbrev pub CyclesStand : Type 0
CyclesStand =
    (tree : Tree) (end limit low : ℕ) (s n : RunState) (c : Cycle) → StandsFrom limit low s
    → next_cycle tree end limit s ≡ cycled c n → CycleStands end limit low c n

-- the instants never fall, from this one on
abbrev pub InstantsNeverFall : ℕ → List Cycle → Type 0
InstantsNeverFall low [] = ⊤
InstantsNeverFall low (c ∷ cs) = (low ≤ c.time) × InstantsNeverFall c.time cs

-- how many cycles a time has
abbrev pub cycles_at_instant : ℕ → List Cycle → ℕ
cycles_at_instant t cs = count_by (λ (c : Cycle). c.time == t) cs

-- cycles in order of time, none after the end, and never too many at one time
pub record AreInstants (end limit low : ℕ) (cs : List Cycle) : Type 0 where
  pub never_fall : InstantsNeverFall low cs
  pub within : All (λ (c : Cycle). c.time ≤ end) cs
  pub few_at_one : (t : ℕ) → cycles_at_instant t cs ≤ limit
  pub few : length cs ≤ most_cycles end limit

-- the cycles of a run are so
abbrev pub InstantsOfRuns : Type 0
InstantsOfRuns =
    (tree : Tree) (end limit low : ℕ) (s l : RunState) (cs : List Cycle) (v : Verdict)
    → StandsFrom limit low s → Runs tree end limit s cs v l → AreInstants end limit low cs

-- a verdict comes within the most cycles, so what is computed is a run
abbrev pub RunsEnd : Type 0
RunsEnd =
    (n : ℕ) (tree : Tree) (end limit low : ℕ) (s : RunState) → StandsFrom limit low s
    → most_cycles end limit ≤ n
    → Runs tree end limit s (run_from n tree end limit s).cycles
    (run_from n tree end limit s).verdict (run_from n tree end limit s).left

-- the same of a whole run
abbrev pub RunIsARun : Type 0
RunIsARun =
    (tree : Tree) (events : List Event) (end limit : ℕ)
    → Runs tree end limit (start tree events) (run tree events end limit).cycles
    (run tree events end limit).verdict (run tree events end limit).left

-- a run that is done leaves what is after the end, and of the events all that are
pub record LeavesLater (end : ℕ) (s l : RunState) : Type 0 where
  pub leaves : All (LeafWaitsFrom (end + 1)) l.leaf_states
  pub events : l.events ≡ filter (λ (e : Event). nat_lt end e.time) s.events

-- a run that came to its end leaves nothing due before it
abbrev pub DoneRunsLeaveLater : Type 0
DoneRunsLeaveLater =
    (tree : Tree) (end limit low : ℕ) (s l : RunState) (cs : List Cycle) → StandsFrom limit low s
    → Runs tree end limit s cs done l → LeavesLater end s l
