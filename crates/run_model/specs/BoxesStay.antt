-- The words of a box stay a state of its class.
use Rattle.std.specs.Prelude.{◌≡◌, ℕ, true, List, ℤ, IfSome}
use Rattle.std.specs.List.{All}
use Rattle.quantity.specs.declared.value.Value.{Value}
use Rattle.quantity.specs.Roots.{IsBounded}
use Rattle.atomic_face.specs.declared.class.Class.{Class}
use Rattle.atomic_face.specs.declared.class.PortNo.{PortNo}
use Rattle.atomic_face.specs.Classes.{Bag, moved_state}
use Rattle.atomic_face.specs.BoxStates.{is_box_state}
use Rattle.quantity.specs.TimeBounds.{IsDelay}
use Rattle.run_model.specs.Bounds.{AreBoundedSettings}

-- a move at a time, with bounded values, keeps a state a state
abbrev pub StaysAState : Class → Type 0
StaysAState class =
    (settings state : List ℤ) (t : ℕ) (bag : Bag) → AreBoundedSettings class settings → IsDelay t
    → All (λ (i : PortNo × Value). IsBounded i.1) bag → is_box_state class settings state ≡ true
    → IfSome (moved_state class settings state t bag)
    (λ words. is_box_state class settings words ≡ true)
