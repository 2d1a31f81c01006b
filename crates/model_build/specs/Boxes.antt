-- The boxes of a model: each atomic component has one of its own, taken and at its start.
use Rattle.std.specs.Prelude.{◌≡◌, ℕ, true, Some, List, [], ◌∷◌, ◌++◌, map, slice_get}
use Rattle.atomic_face.specs.BoxCalls.{box_at_start}
use Rattle.atomic_face.specs.StockView.{Stocked}
use Rattle.model_tree.specs.declared.component.Coupled.{Coupled}
use Rattle.model_tree.specs.declared.component.Component.{Component, Row_of-Component, end_of-Component, more_of-Component}
use Rattle.model_tree.specs.declared.component.Component.TheVariants.{Coupled as in_tree, Coupled', Cells, Atomic as atomic_in_tree}
use Rattle.model_tree.specs.declared.group.Atomic.{Atomic}
use Rattle.model_build.specs.Settled.{are_apart}
pub use Rattle.model_leaves.specs.Boxes.{settings_of_stock, StartedAs, BoxesStand}

-- ---- components

-- the atomic components of a component, in declared order
abbrev mutual
  pub atomics_in : Component → List Atomic
  atomics_in (Coupled' name ins outs shape children links) = all_atomics_in children
  atomics_in (Cells g) = []
  atomics_in (atomic_in_tree a) = a ∷ []

  pub all_atomics_in : {k : _} → Row_of-Component k → List Atomic
  all_atomics_in end_of-Component = []
  all_atomics_in (more_of-Component c rest) = atomics_in c ++ all_atomics_in rest

-- the box of a component is taken, and stands at the start that its settings give
abbrev pub IsStarted : List Stocked → Atomic → Type 0
IsStarted stock a =
    slice_get stock a.at.0 ≡ Some (record {
      box = box_at_start a.class (settings_of_stock stock a.at.0);
      taken = true;
    })

-- each atomic component has such a box, one of its own
pub record HasBoxes (stock : List Stocked) (top : Coupled) : Type 0 where
  pub started : (k : ℕ) (a : Atomic) → slice_get (atomics_in (in_tree top)) k ≡ Some a
      → IsStarted stock a
  pub apart : are_apart (map (λ (a : Atomic). a.at.0) (atomics_in (in_tree top))) ≡ true
