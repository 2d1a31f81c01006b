-- Private: one step of a walk.
use Rattle.std.specs.Prelude.{◌≡◌, ℕ, Bool, Option, Some, None, List, [], ◌∷◌, ◌++◌, map, slice_get, slice_set}
use Rattle.std.specs.declared.result.Result.{Result}
use Rattle.std.specs.declared.result.Result.TheVariants.{Ok, Err}
use Rattle.model_tree.specs.Tree.{Tree, leaves}
use Rattle.run_model.specs.Cycle.{LeafState, leaf_next, Moved, stayed, moved, stopped}
use Rattle.run_model.specs.Run.{PortRecord, computed_of}
use Rattle.text_forms.specs.declared.records.Records.{Records}
use Rattle.text_forms.specs.declared.records.SRecord.{SRecord}
use Rattle.text_forms.specs.Held.{s_at}
use Rattle.leaf_set.specs.Members.{is_in}
use Rattle.sparse_cycle.specs.Sparse.{is_woken_at, move_at}
use Rattle.run_model.specs.declared.stop.Stop.{Stop}
use Rattle.run_model.specs.Stopping.{StopsCycle}
use Rattle.cycle_steps.specs.Untimed.{x_records}

-- a leaf's state, its next time and its S record
pub record StepsTo (t : ℕ) (old new : List LeafState) (w w' : List (Option ℕ)) (s s' : List SRecord)
    (l : ℕ) (x : LeafState) : Type 0 where
  pub states_are : new ≡ slice_set old l x
  pub waiting_are : w' ≡ slice_set w l (leaf_next x)
  pub records_are : s' ≡ s ++ map (s_at t)
      (record { leaf = l; value = computed_of x; next = leaf_next x } ∷ [])

-- a step by what becomes of the leaf
abbrev pub StepsOne : {U : Type 0} → ℕ → List LeafState → List LeafState → List (Option ℕ)
    → List (Option ℕ) → List SRecord → List SRecord → ℕ → Moved → Result U Stop → Type 0
StepsOne t old new w w' s s' l stayed (Ok u) = ⊥
StepsOne t old new w w' s s' l (moved x) (Ok u) = StepsTo t old new w w' s s' l x
StepsOne t old new w w' s s' l (stopped why) (Ok u) = ⊥
StepsOne t old new w w' s s' l stayed (Err stop) = StopsCycle t None stop
StepsOne t old new w w' s s' l (moved x) (Err stop) = StopsCycle t None stop
StepsOne t old new w w' s s' l (stopped why) (Err stop) = StopsCycle t (Some (l, why)) stop

-- a step of this leaf, for each model whose leaves stand so, and all that was given in the cycle
-- where it is woken or not
abbrev pub StepsEach : {U : Type 0} → (Tree → Type 0) → List Bool → ℕ → ℕ → List LeafState
    → List (Option ℕ) → Records → List LeafState → List (Option ℕ) → Records → Result U Stop
    → Type 0
StepsEach stands woken t l old waiting records new left records' result =
    (tree : Tree) (given : List PortRecord) → stands tree
    → is_in woken l ≡ is_woken_at given (slice_get (leaves tree) l)
    → StepsOne t old new waiting left records.s.items records'.s.items l
    (move_at tree t old given (x_records records.x.items) l) result
