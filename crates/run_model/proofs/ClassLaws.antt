-- What is proved of each class of boxes.
use Rattle.std.proofs.Common.{◌≡◌, ℕ, true, List}
use Rattle.std.specs.Prelude.{IfSome, ℤ}
use Rattle.std.specs.List.{All, list_all}
use Rattle.quantity.specs.declared.value.Value.{Value}
use Rattle.quantity.specs.Names.{is_name}
use Rattle.quantity.specs.TimeBounds.{IsDelay, IsTime}
use Rattle.atomic_face.specs.declared.params.Param.{Param}
use Rattle.atomic_face.specs.declared.class.PortNo.{PortNo}
use Rattle.atomic_face.specs.Bags.{Bag}
use Rattle.atomic_face.specs.ClassRules.{ClassRules}
use Rattle.run_model.specs.ClassBounds.{ClassBounds, IsNotBefore}
use Rattle.run_model.proofs.BoundedCells.{IsBoundedInput}

-- at the port out
abbrev pub AtOut : PortNo × Value → Type 0
AtOut o = o.0.0 ≡ 0

-- the laws of a class with these rules and bounds
pub record ClassLaws (rules : ClassRules) (bounds : ClassBounds) : Type 0 where
  -- a state at the start waits for 0 or later
  pub start_waits : (settings : List ℤ) → bounds.waits_from 0 (rules.start settings)
  -- and so do words that are a state
  pub state_waits : (settings state : List ℤ) → rules.is_state settings state ≡ true → bounds.waits_from 0 state
  -- a move keeps what waits from its time on
  pub moved_waits : (settings state : List ℤ) (t : ℕ) (bag : Bag) → bounds.waits_from t state → IfSome (rules.moved settings state t bag) (bounds.waits_from t)
  -- what waits does so until the next time
  pub waits_later : (state : List ℤ) (low u : ℕ) → IsNotBefore u (rules.next state) → bounds.waits_from low state → bounds.waits_from u state
  -- the next time is one that is waited for
  pub next_waits : (state : List ℤ) (low : ℕ) → bounds.waits_from low state → IsNotBefore low (rules.next state)
  -- the settings that parameters give are bounded
  pub settings_bounded : (ps : List Param) → bounds.bounded_settings (rules.settings ps)
  -- bounded settings start with a bounded state
  pub start_bounded : (settings : List ℤ) → bounds.bounded_settings settings → bounds.bounded_state (rules.start settings)
  -- a move with bounded values keeps the state bounded
  pub moved_bounded : (settings state : List ℤ) (t : ℕ) (bag : Bag) → bounds.bounded_settings settings → IsDelay t → All IsBoundedInput bag → bounds.bounded_state state → IfSome (rules.moved settings state t bag) bounds.bounded_state
  -- the next time of a bounded state is one that a run can reach
  pub next_bounded : (state : List ℤ) → bounds.bounded_state state → IfSome (rules.next state) IsTime
  -- what is given is bounded
  pub output_bounded : (settings state : List ℤ) → bounds.bounded_settings settings → bounds.bounded_state state → All IsBoundedInput (rules.output settings state)
  -- and is given at the port out
  pub output_at_out : (settings state : List ℤ) → All AtOut (rules.output settings state)
  -- its input ports have names
  pub inputs_named : list_all is_name rules.inputs ≡ true
