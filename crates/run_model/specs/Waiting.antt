-- What waits in a run: pairs of delay lists, next times and events, none of them before an instant.
use Rattle.std.specs.Prelude.{ℕ, ◌+◌, ◌≤◌, List, [], ◌∷◌, ℤ, IfSome, ⊤}
use Rattle.std.specs.List.{All}
use Rattle.quantity.specs.declared.value.Value.{Value}
use Rattle.atomic_face.specs.declared.class.Class.{Class}
pub use Rattle.run_model.specs.ClassBounds.{IsNotBefore}
use Rattle.run_model.specs.BoundsTable.{bounds_of}
use Rattle.run_model.specs.CellStep.{PortState, CellState}
use Rattle.run_model.specs.Cycle.{LeafState, box_state, cell_state}
use Rattle.run_model.specs.Run.{Event, RunState}

-- the times of a delay list rise, from this one on
abbrev pub RisesFrom : ℕ → List (ℕ × Value) → Type 0
RisesFrom low [] = ⊤
RisesFrom low (p ∷ ps) = (low ≤ p.0) × RisesFrom (p.0 + 1) ps

-- each list of a cell rises from this time on
abbrev pub CellWaitsFrom : ℕ → CellState → Type 0
CellWaitsFrom low c = All (λ (p : PortState). RisesFrom low p.pairs) c.ports

-- a box waits for this time or a later one
abbrev pub BoxWaitsFrom : ℕ → Class → List ℤ → Type 0
BoxWaitsFrom low class = (bounds_of class).waits_from low

-- a box or a cell
abbrev pub LeafWaitsFrom : ℕ → LeafState → Type 0
LeafWaitsFrom low (box_state b) = BoxWaitsFrom low b.kind b.state
LeafWaitsFrom low (cell_state c) = CellWaitsFrom low c

-- where a run stands between two cycles: all that waits is from this instant on, and the last one
-- isn't later
pub record StandsFrom (limit low : ℕ) (s : RunState) : Type 0 where
  pub leaves : All (LeafWaitsFrom low) s.leaf_states
  pub events : All (λ (e : Event). low ≤ e.time) s.events
  pub last : IfSome s.last (λ t. (t ≤ low) × (s.count ≤ limit))
