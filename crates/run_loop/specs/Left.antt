-- What is left of a run from where it stands.
use Rattle.std.specs.Prelude.{◌≡◌, ℕ, Some, slice_get}
use Rattle.std.specs.List.{All}
use Rattle.model_tree.specs.Tree.{Tree, Leaf, leaves}
use Rattle.run_model.specs.Fitting.{FitsTree, NamesItsParts}
use Rattle.run_model.specs.Run.{Run, run_from}
use Rattle.run_model.specs.Runs.{Runs}
use Rattle.text_forms.specs.CycleNames.{HasPortValues}
use Rattle.run_leaves.specs.Standing.{Standing, tree_in}

-- at most n cycles from where a run stands
abbrev pub rest_of : ℕ → Standing → Run
rest_of n s = run_from n (tree_in s) s.end s.limit s.state

-- so many cycles are enough for a verdict: no more is due after them
abbrev pub EndsWithin : ℕ → Standing → Type 0
EndsWithin n s =
    let r = rest_of n s in Runs (tree_in s) s.end s.limit s.state r.cycles r.verdict r.left

-- and its cycles name leaves and ports that there are, and its states fit the model to the end
pub record IsFitTo (n : ℕ) (s : Standing) : Type 0 where
  pub whole : EndsWithin n s
  pub names : All (NamesItsParts (tree_in s)) (rest_of n s).cycles
  pub fits : FitsTree (tree_in s) (rest_of n s).left.leaf_states

-- each further port of a cell of the model has a value at the start
abbrev pub HaveValues : Tree → Type 0
HaveValues tree = (k : ℕ) (l : Leaf) → slice_get (leaves tree) k ≡ Some l → HasPortValues l
