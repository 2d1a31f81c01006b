-- Where a run stands: its model, the state of the reference run, and why it has stopped; and the
-- text of that state.
use Rattle.std.specs.Prelude.{ℕ, Option, List, ℤ}
use Rattle.quantity.specs.Bytes.{Bytes}
use Rattle.model_leaves.specs.declared.table.Model.{Model}
use Rattle.model_tree.specs.Tree.{Tree}
use Rattle.run_model.specs.Run.{RunState, Next, next_cycle}
use Rattle.text_forms.specs.StateText.{text_of_state}
use Rattle.run_leaves.specs.Seated.{tree_at}
use Rattle.run_model.specs.declared.stop.Stop.{Stop}

-- the settings of each box by its number, the state of the run, its end and its limit
pub record Standing : Type 0 where
  pub model : Model
  pub settings : List (List ℤ)
  pub state : RunState
  pub end : ℕ
  pub limit : ℕ
  pub stopped : Option Stop

-- the plain tree of the model
abbrev pub tree_in : Standing → Tree
tree_in s = tree_at s.model s.settings

-- the next cycle of the reference run, or its verdict
abbrev pub next_of_run : Standing → Next
next_of_run s = next_cycle (tree_in s) s.end s.limit s.state

-- the text of the state in which a run stands, with this time
abbrev pub text_of_run : Standing → ℕ → Bytes
text_of_run run at = text_of_state (tree_in run) at run.state.leaf_states
