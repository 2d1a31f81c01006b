-- What one cycle makes of leaves, queue and records.
use Rattle.std.specs.Prelude.{◌≡◌, ℕ, Bool, Option, List, map, OnOk}
use Rattle.std.specs.declared.result.Result.{Result}
use Rattle.model_leaves.specs.declared.path.Path.{Path}
use Rattle.model_tree.specs.Tree.{Tree}
use Rattle.run_model.specs.Cycle.{LeafState}
use Rattle.run_model.specs.Run.{RunState, PortRecord}
use Rattle.run_model.specs.declared.stop.Stop.{Stop}
use Rattle.text_forms.specs.declared.records.Records.{Records}
use Rattle.text_forms.specs.Held.{y_at, x_at, out_at}
use Rattle.sparse_cycle.specs.Sparse.{Parts, cycle_parts}
use Rattle.sparse_cycle.specs.Collect.{y_of, n_of}
use Rattle.sparse_cycle.specs.Walk.{leaf_walk}
use Rattle.cycle_steps.specs.declared.workspace.Workspace.{Workspace}
use Rattle.cycle_steps.specs.Untimed.{x_records}
use Rattle.cycle_steps.specs.Half.{IsRunOf, AreWoken}
use Rattle.cycle_steps.specs.Moving.{stand_of, WalksTo}

-- the records of a cycle, but for those of the leaves that moved
pub record HasRecords (p : Parts) (t : ℕ) (records : Records) : Type 0 where
  pub y_is : records.y.items ≡ map (y_at t) (y_of p.given)
  pub n_is : records.n.items ≡ map (y_at t) (n_of p.given)
  pub x_is : records.x.items ≡ map (x_at t) p.fed
  pub out_is : records.out.items ≡ map (out_at t) p.out

-- the touched leaves have moved one after another, from where all stood after the emission and from
-- this queue
pub record CyclesTo {U : Type 0} (tree : Tree) (t : ℕ) (p : Parts) (waiting : List (Option ℕ))
    (states : List LeafState) (left : List (Option ℕ)) (records : Records)
    (result : Result U Stop) : Type 0 where
  pub walks : WalksTo t (leaf_walk tree t p.given p.fed p.touched
      (stand_of p.emitted waiting)) states left records.s.items result
  pub records_are : OnOk result (HasRecords p t records)

-- the same for each model and state of a run that stands so
abbrev pub CyclesEach : {S U : Type 0} → (Tree → Type 0) → ℕ → Workspace S → List Path
    → (ℕ → ℕ → Bool) → List LeafState → List (Option ℕ) → List LeafState → List (Option ℕ)
    → Records → Result U Stop → Type 0
CyclesEach stands t work paths watches old waiting new left records result =
    (tree : Tree) (s : RunState) → stands tree
    → IsRunOf tree t s old work.inputs.items paths watches
    → CyclesTo tree t (cycle_parts tree t s) waiting new left records result

-- a walk of these leaves, for each model whose leaves stand so, and all that was given in the cycle
-- where these are woken
abbrev pub WalksEach : {U : Type 0} → (Tree → Type 0) → List Bool → ℕ → List ℕ
    → List LeafState → List (Option ℕ) → Records → List LeafState → List (Option ℕ) → Records
    → Result U Stop → Type 0
WalksEach stands woken t touched old waiting records new left records' result =
    (tree : Tree) (given : List PortRecord) → stands tree → AreWoken woken tree given
    → WalksTo t (leaf_walk tree t given (x_records records.x.items) touched (stand_of old waiting))
    new left records'.s.items result
