-- Private: the state in which a run is left, where it is done.
use Rattle.std.specs.Prelude.{◌≡◌, Bool, Option, None, IsTrue, ⊤}
use Rattle.run_model.specs.Fitting.{FitsTree}
use Rattle.run_model.specs.Run.{Run}
use Rattle.run_leaves.specs.Marking.{Marking}
use Rattle.run_leaves.specs.Standing.{Standing, tree_in}
use Rattle.run_loop.specs.declared.ending.Ending.{Ending}
use Rattle.run_loop.specs.declared.ending.Ending.TheVariants.{Done, Stopped}
use Rattle.run_loop.specs.Ends.{IsVerdict}

-- no stop was answered, the states fit the model, and where they are to be saved messages have no
-- order of service
abbrev pub LeftIn : Ending → Bool → Option Marking → Standing → Type 0
LeftIn Done is_saved m s =
    (s.stopped ≡ None) × FitsTree (tree_in s) s.state.leaf_states × (IsTrue is_saved → m ≡ None)
LeftIn (Stopped why) is_saved m s = ⊤

-- a run has this verdict, and where it is done it was left so
abbrev pub LeftSo : Ending → Run → Standing → Type 0
LeftSo Done r s = r.left ≡ s.state
LeftSo (Stopped why) r s = ⊤

abbrev pub Saves : Ending → Run → Standing → Type 0
Saves ending r s = IsVerdict ending r.verdict × LeftSo ending r s
