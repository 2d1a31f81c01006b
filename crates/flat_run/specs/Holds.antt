-- Private: what holds of a run between two cycles.
use Rattle.std.specs.Prelude.{◌≡◌, ℕ, ◌≤◌, Bool, false, Option, None, List, map, replicate, slice_get}
use Rattle.std.specs.List.{All}
use Rattle.std.specs.List.Sorted.{IsNonDecreasingBy}
use Rattle.quantity.specs.declared.bounds.TheConstants.{MAX_DELAY}
use Rattle.atomic_face.specs.StockView.{Stocked}
use Rattle.event_list.specs.Events.{Event}
use Rattle.model_leaves.specs.declared.table.Model.{Model}
use Rattle.model_leaves.specs.declared.path.Path.{Path}
use Rattle.model_tree.specs.Tree.{Tree, ins_of, leaf_count, leaves}
use Rattle.model_tree.specs.Tree as tree
use Rattle.model_leaves.specs.Leaves.{OfTree}
use Rattle.run_model.specs.Cycle.{initial_leaf}
use Rattle.run_model.specs.Fitting.{FitsTree}
use Rattle.route_flat.specs.Nets.{Flat}
use Rattle.route_flat.specs.Ways.{paths_of}
use Rattle.sparse_cycle.specs.Feed.{AreDistinct, AreAtInputs}
use Rattle.sparse_cycle.specs.Walk.{waits}
use Rattle.cycle_steps.specs.Paths.{ArePathsOf, IsPortOf, target_leaves}
use Rattle.run_leaves.specs.Seated.{Seated, input_count, settings_in, tree_at}
use Rattle.run_leaves.specs.Watching.{Watching, IsWatchingOf}
use Rattle.run_model.specs.declared.stop.Stop.{Stop}
use Rattle.flat_run.specs.Changes.{tree_with}

-- the end, the limit, and how many cycles the last instant has had
pub record AreCounts (end limit count : ℕ) : Type 0 where
  pub end_is : end ≤ MAX_DELAY
  pub few : count ≤ limit
  pub some : 1 ≤ limit

-- how many input ports the leaf of a number has
abbrev pub ports_in : Tree → ℕ → ℕ
ports_in tree l = input_count (slice_get (leaves tree) l)

-- the paths are the model's: they lead to ports that there are, by rising leaf, and no two inputs
-- of top have one name
pub record AreRoutes (tree : Tree) (paths : List Path) : Type 0 where
  pub paths_are : ArePathsOf tree paths
  pub ports : All (λ (p : Path). IsPortOf (leaf_count tree) (ports_in tree) p.to) paths
  pub order : IsNonDecreasingBy (λ (k : ℕ). k) (target_leaves paths)
  pub distinct : AreDistinct (ins_of tree)

-- routes, watchers and events are the model's own; the lists of leaves have room for all of them
pub record IsFrameOf (tree : Tree) (routes : Flat) (watching : Watching) (events : List Event)
    (due moving : ℕ) : Type 0 where
  pub routes_are : AreRoutes tree (paths_of routes)
  pub watching_is : IsWatchingOf tree watching
  pub at_inputs : AreAtInputs (ins_of tree) events
  pub due_room : leaf_count tree ≤ due
  pub moving_room : leaf_count tree ≤ moving

-- the states fit the model, the queue waits as the leaves do, and both sets are empty
pub record GoesOn (tree : Tree) (leaves : Seated) (waiting : List (Option ℕ))
    (woken touched : List Bool) : Type 0 where
  pub fits : FitsTree tree leaves.states
  pub queue : waiting ≡ waits leaves.states
  pub calm : woken ≡ replicate (leaf_count tree) false
  pub at_rest : touched ≡ replicate (leaf_count tree) false

-- what a run has of its model before its first cycle: the leaves at their start, who watches them,
-- empty sets, and lists with room for all leaves
pub record ArePartsOf (m : Model) (stock : List Stocked) (leaves : Seated) (watching : Watching)
    (woken touched : List Bool) (due moving : ℕ) : Type 0 where
  pub model_is : leaves.model ≡ m
  pub settings_are : leaves.settings ≡ settings_in stock
  pub states_are : leaves.states ≡ map initial_leaf (tree.leaves (tree_with m stock))
  pub watching_is : OfTree m (λ t. IsWatchingOf t watching)
  pub woken_are : OfTree m (λ t. woken ≡ replicate (leaf_count t) false)
  pub touched_are : OfTree m (λ t. touched ≡ replicate (leaf_count t) false)
  pub due_room : OfTree m (λ t. due ≡ leaf_count t)
  pub moving_room : OfTree m (λ t. moving ≡ leaf_count t)

-- after a stop the leaves, the queue and the sets are left as they are
pub record HoldsRun (leaves : Seated) (routes : Flat) (watching : Watching) (events : List Event)
    (waiting : List (Option ℕ)) (woken touched : List Bool) (due moving end limit count : ℕ)
    (stopped : Option Stop) : Type 0 where
  pub counts : AreCounts end limit count
  pub frame : IsFrameOf (tree_at leaves.model leaves.settings) routes watching events due moving
  pub goes_on : stopped ≡ None
      → GoesOn (tree_at leaves.model leaves.settings) leaves waiting woken touched
