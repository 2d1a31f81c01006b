-- What stands when the leaves of a cycle begin to move.
use Rattle.std.specs.Prelude.{◌≡◌, ℕ, Bool, List, map, slice_get}
use Rattle.quantity.specs.declared.value.Value.{Value}
use Rattle.model_leaves.specs.declared.path.Path.{Path}
use Rattle.model_tree.specs.Tree.{Tree, ins_of, leaves}
use Rattle.run_model.specs.Cycle.{LeafState}
use Rattle.run_model.specs.Run.{RunState, PortRecord}
use Rattle.text_forms.specs.declared.records.Records.{Records}
use Rattle.text_forms.specs.Held.{y_at, x_at, out_at}
use Rattle.leaf_set.specs.Members.{is_in}
use Rattle.sparse_cycle.specs.Sparse.{Parts, due_leaves, is_woken_at, cycle_parts}
use Rattle.sparse_cycle.specs.Collect.{Collected, collected_at_once, y_of, n_of}
use Rattle.sparse_cycle.specs.Wake.{watches_at}
use Rattle.sparse_cycle.specs.Feed.{AreDistinct, AreAtInputs, inputs_at}
use Rattle.cycle_steps.specs.declared.workspace.Workspace.{Workspace}
use Rattle.cycle_steps.specs.Paths.{ArePathsOf}

-- what the due leaves give
abbrev pub due_give : ℕ → List LeafState → Collected
due_give t states = collected_at_once t states (due_leaves t states)

-- the leaves, the inputs of the instant, the paths and the watchers are those of a run of a model
pub record IsRunOf (tree : Tree) (t : ℕ) (s : RunState) (states : List LeafState)
    (inputs : List (ℕ × Value)) (paths : List Path) (watches : ℕ → ℕ → Bool) : Type 0 where
  pub states_are : s.leaf_states ≡ states
  pub inputs_are : inputs ≡ inputs_at t s.events
  pub at_inputs : AreAtInputs (ins_of tree) s.events
  pub distinct : AreDistinct (ins_of tree)
  pub paths_are : ArePathsOf tree paths
  pub watch : (k l : ℕ) → watches k l ≡ watches_at tree k l

-- a fact of the model and of the parts of the cycle, for each model and state of a run that stands
-- so
abbrev pub EachRun : {S : Type 0} → ℕ → Workspace S → List Path → (ℕ → ℕ → Bool)
    → List LeafState → (Tree → Parts → Type 0) → Type 0
EachRun t work paths watches states fact =
    (tree : Tree) (s : RunState) → IsRunOf tree t s states work.inputs.items paths watches
    → fact tree (cycle_parts tree t s)

-- the marked leaves are those that are woken by what was given
abbrev pub AreWoken : List Bool → Tree → List PortRecord → Type 0
AreWoken marks tree given =
    (k : ℕ) → is_in marks k ≡ is_woken_at given (slice_get (leaves tree) k)

-- the parts of a cycle that stand before its leaves move
pub record HalfOf (p : Parts) (t : ℕ) (states : List LeafState) (records : Records)
    (touched : List ℕ) : Type 0 where
  pub emitted_is : states ≡ p.emitted
  pub y_is : records.y.items ≡ map (y_at t) (y_of p.given)
  pub n_is : records.n.items ≡ map (y_at t) (n_of p.given)
  pub x_is : records.x.items ≡ map (x_at t) p.fed
  pub out_is : records.out.items ≡ map (out_at t) p.out
  pub touched_is : touched ≡ p.touched
