-- The laws of a class, said of a box of any class.
use Rattle.std.proofs.Common.{◌≡◌, ℕ, true, List}
use Rattle.std.specs.Prelude.{IfSome, ℤ}
use Rattle.std.specs.List.{All, list_all}
use Rattle.quantity.specs.Names.{is_name}
use Rattle.quantity.specs.TimeBounds.{IsDelay, IsTime}
use Rattle.atomic_face.specs.declared.class.Class.{Class}
use Rattle.atomic_face.specs.declared.params.Param.{Param}
use Rattle.atomic_face.specs.ClassNames.{class_ports}
use Rattle.atomic_face.specs.Classes.{Bag, next_of, output_of, moved_state, initial_state}
use Rattle.atomic_face.specs.Settings.{settings_of}
use Rattle.atomic_face.specs.BoxStates.{is_box_state}
use Rattle.run_model.specs.Waiting.{IsNotBefore, BoxWaitsFrom}
use Rattle.run_model.specs.Bounds.{AreBoundedSettings, IsBoundedBox}
use Rattle.run_model.proofs.BoundedCells.{IsBoundedInput}
use Rattle.run_model.proofs.ClassLaws.{AtOut}
use Rattle.run_model.proofs.LawsTable.{laws_of}

-- ---- what waits in a box stays later

pub initial-waits : (class : Class) (settings : List ℤ) → BoxWaitsFrom 0 class (initial_state class settings)
initial-waits class = (laws_of class).start_waits

pub state-waits : (class : Class) (settings state : List ℤ) → is_box_state class settings state ≡ true → BoxWaitsFrom 0 class state
state-waits class = (laws_of class).state_waits

pub box_moved-waits : (class : Class) (settings state : List ℤ) (t : ℕ) (bag : Bag) → BoxWaitsFrom t class state → IfSome (moved_state class settings state t bag) (BoxWaitsFrom t class)
box_moved-waits class = (laws_of class).moved_waits

pub box-later : (class : Class) (state : List ℤ) (low u : ℕ) → IsNotBefore u (next_of class state) → BoxWaitsFrom low class state → BoxWaitsFrom u class state
box-later class = (laws_of class).waits_later

pub box-from : (class : Class) (state : List ℤ) (low : ℕ) → BoxWaitsFrom low class state → IsNotBefore low (next_of class state)
box-from class = (laws_of class).next_waits

-- ---- settings and states stay bounded

pub settings_bounded : (class : Class) (ps : List Param) → AreBoundedSettings class (settings_of class ps)
settings_bounded class = (laws_of class).settings_bounded

pub initial-bounded : (class : Class) (settings : List ℤ) → AreBoundedSettings class settings → IsBoundedBox class (initial_state class settings)
initial-bounded class = (laws_of class).start_bounded

pub box_moved-bounded : (class : Class) (settings state : List ℤ) (t : ℕ) (bag : Bag) → AreBoundedSettings class settings → IsDelay t → All IsBoundedInput bag → IsBoundedBox class state → IfSome (moved_state class settings state t bag) (IsBoundedBox class)
box_moved-bounded class = (laws_of class).moved_bounded

pub box_next-bounded : (class : Class) (state : List ℤ) → IsBoundedBox class state → IfSome (next_of class state) IsTime
box_next-bounded class = (laws_of class).next_bounded

pub output-bounded : (class : Class) (settings state : List ℤ) → AreBoundedSettings class settings → IsBoundedBox class state → All IsBoundedInput (output_of class settings state)
output-bounded class = (laws_of class).output_bounded

-- ---- ports

pub output-at : (class : Class) (settings state : List ℤ) → All AtOut (output_of class settings state)
output-at class = (laws_of class).output_at_out

pub inputs-named : (class : Class) → list_all is_name (class_ports class) ≡ true
inputs-named class = (laws_of class).inputs_named
